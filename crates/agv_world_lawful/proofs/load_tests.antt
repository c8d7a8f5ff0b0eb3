-- The tests of the loads and the jobs say, where the vehicles are lawful, just that the loads are lawful. With those of the vehicles they pass just where the world is lawful.
pub mod ActsTold
pub mod CapacityTold
pub mod LawfulTold
pub mod LiveJobsTold
pub mod LoadsOfOthers
pub mod LoadsTold
pub mod PlacesTold
pub mod RoomTold
