pub mod InTurn
pub mod StaysKnown
pub mod Serving
pub mod HasServed
pub mod Streams
pub mod Writing
pub mod Exits
pub mod Counting
