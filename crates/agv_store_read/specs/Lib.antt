pub mod FirstRow
pub mod HeldThings
pub mod OpenFault
pub mod ReadTables
pub mod Rowids
pub mod TableChecks
pub mod TablesRead
pub mod WorldAnswers
