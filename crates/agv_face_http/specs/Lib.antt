pub mod Output
pub mod StreamEnds
pub mod answers
pub mod bodies
pub mod request
pub mod routing
