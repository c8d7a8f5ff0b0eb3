-- The world that the tables tell: what it has at each key, and how many there are. The tables of a world with consistent trips tell that world.
pub mod Counts
pub mod EdgesTold
pub mod NodesOf
pub mod RowsTold
pub mod Telling
pub mod ToldVehicles
pub mod WorldTold
