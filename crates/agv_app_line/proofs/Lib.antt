pub mod Walks
pub mod Rows
pub mod Subcommands
pub mod Readings
pub mod Commands
pub mod Lines
