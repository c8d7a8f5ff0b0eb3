pub mod Answers
pub mod Bodies
pub mod Given
pub mod Heads
pub mod Pieces
pub mod Sizes
pub mod JobBody
pub mod VehicleBody
