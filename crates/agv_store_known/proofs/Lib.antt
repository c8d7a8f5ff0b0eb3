pub mod KeptJobs
pub mod KeptLayout
pub mod KeptMaps
pub mod KeptRooms
pub mod KeptTrips
pub mod KeptVehicles
pub mod Knowing
