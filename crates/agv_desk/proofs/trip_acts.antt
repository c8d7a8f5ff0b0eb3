-- The acts of a trip, from the jobs that begin to ride with an order to the last act of a state: each that becomes finished finds its load, and the stock invariant holds along the way.
pub mod ActionViews
pub mod Beginnings
pub mod FitStops
pub mod FoundActs
pub mod FoundJobs
pub mod FoundMoves
pub mod ReservedPlaces
pub mod OffSteps
pub mod OrderJobs
pub mod Starts
pub mod TripActs
pub mod WalkHeads
pub mod WalkSteps
pub mod Walks
