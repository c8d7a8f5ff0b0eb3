pub mod NewDesks
