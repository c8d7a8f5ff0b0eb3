pub mod CountQueries
pub mod Refusals
pub mod RowQueries
pub mod RowUpdates
pub mod WritesInside
