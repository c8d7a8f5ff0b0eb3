-- A lawful world has consistent trips. Where its vehicles are lawful, its loads are lawful just where the stock invariant holds.
pub mod ActPlaces
pub mod CapacityCounts
pub mod LawfulOrder
pub mod OtherLoads
pub mod PairCounts
pub mod StockInvariantMade
pub mod StockInvariantTold
pub mod WorldActionViews
