-- A stocktake: its rows are noted one after the other as what is said of the whole of them, and the loads that it moves are afterwards where they were found, within the room there.
pub mod CountedLoads
pub mod CountedMoves
pub mod CountedRoom
pub mod CountedStations
pub mod CountedWhole
pub mod FoundLoads
pub mod PlacedLoads
pub mod StandingLoads
pub mod StockLaws
pub mod StockMoved
