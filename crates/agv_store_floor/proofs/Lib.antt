pub mod Asked
pub mod InTurn
mod Kept
mod ReportLists
