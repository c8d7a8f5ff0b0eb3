pub mod NewWorld
pub mod WorldIn
