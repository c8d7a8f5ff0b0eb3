pub mod ActRows
pub mod ChangesMade
pub mod Faults
