pub mod AskedShown
pub mod JobAnswers
pub mod KeyAnswers
pub mod KeysShown
pub mod LoadAnswers
pub mod StationLoads
pub mod TripAnswers
