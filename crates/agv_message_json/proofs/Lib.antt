pub mod Appending
pub mod Escapes
pub mod Bodies
pub mod Arrays
pub mod States
mod Readings
mod Stamps
mod Texts
pub mod Written
