pub mod Checks
pub mod Phase
pub mod Rooms
