pub mod LawfulInParts
pub mod lawful_worlds
pub mod lists
mod row_changes
pub mod told_worlds
pub mod world_rows
