pub mod Driving
mod StopRoutes
mod Messaging
pub mod NewTrips
mod PlanTests
pub mod Releases
mod Serving
mod Stitching
pub mod Stopping
pub mod Touring
pub mod Updates
mod Walked
mod Ways
pub mod WellFormedTests
