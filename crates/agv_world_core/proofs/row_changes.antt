-- The rows that change where a vehicle, a load, a job, a used name or the first layout is written lead to the maps of the world after it.
pub mod ChangeRuns
pub mod Edits
pub mod Followed
pub mod Respreads
pub mod SameRows
pub mod Stays
pub mod VehicleTables
pub mod Written
