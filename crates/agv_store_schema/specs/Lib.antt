pub mod Connections
pub mod DeskRows
pub mod Errors
pub mod RowTexts
pub mod Schema
pub mod SchemaNumbers
