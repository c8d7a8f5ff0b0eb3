pub mod Cut
pub mod Found
pub mod Fronts
pub mod Heard
pub mod Lines
pub mod Next
pub mod Requests
pub mod Starts
