pub mod FoundDatabases
pub mod Stores
