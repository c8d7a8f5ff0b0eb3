pub mod FoundDatabases
pub mod FullMemory
pub mod MemoryFiles
pub mod MemoryStores
