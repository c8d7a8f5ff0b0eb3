-- From bytes to a request: heads, their lines and methods, numbers, and that an input is cut and begins in one way.
pub mod Connections
pub mod Cuts
pub mod Digits
pub mod Heads
pub mod Methods
pub mod Starting
pub mod Values
