pub mod Counts
pub mod KeptJobs
pub mod KeptLayouts
pub mod KeptRooms
pub mod KeptTrips
pub mod KeptVehicles
pub mod Known
