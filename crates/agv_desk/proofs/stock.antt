-- The stock invariant, of loads, jobs and what trips carry, holds after every call: one change at a time, family by family, and then as a whole.
pub mod Shifts
pub mod StockChecks
pub mod StockInvariantChanges
pub mod StockInvariantCounts
pub mod StockInvariantOrders
pub mod StockInvariantDrives
pub mod StockInvariantSteps
pub mod StockInvariantStock
pub mod StockInvariantTrips
pub mod StockInvariantVehicles
pub mod StockInvariantWhole
