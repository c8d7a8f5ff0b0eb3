-- From a world in order the rows that a call changes lead to the maps of the world after it. Which rows change where a layout, a state, an act or a placed vehicle is written.
pub mod ActJobs
pub mod AllSteps
pub mod Effects
pub mod Given
pub mod Laying
pub mod LayoutRows
pub mod MovesTold
pub mod OrderRows
pub mod DriveRows
pub mod PlainSteps
pub mod StateRows
pub mod Steps
pub mod TripStates
pub mod VehicleRows
