pub mod Edges
pub mod Claims
pub mod FirstHeld
pub mod Holders
pub mod Members
pub mod Sheds
mod Tables
pub mod Firsts
pub mod Occupied
pub mod HeldLists
