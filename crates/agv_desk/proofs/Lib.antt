mod exports
mod histories
mod lawful_worlds
pub mod lists
pub mod outcomes
mod row_changes
mod stock
mod stocktakes
mod trip_acts
