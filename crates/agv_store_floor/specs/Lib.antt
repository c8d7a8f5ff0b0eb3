pub mod Flags
pub mod Floors
pub mod ReportLists
