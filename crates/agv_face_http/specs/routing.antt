pub mod RouterRows
pub mod Paths
pub mod Table
pub mod Taken
