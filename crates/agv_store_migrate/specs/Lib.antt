pub mod FirstColumns
pub mod FirstFound
pub mod FirstRows
pub mod FirstTold
pub mod MoveStatements
pub mod Moved
pub mod TripLines
