pub mod Migration
pub mod Opening
pub mod Running
pub mod Serving
