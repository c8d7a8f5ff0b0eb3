pub mod Joining
mod Ending
mod TypedCalls
