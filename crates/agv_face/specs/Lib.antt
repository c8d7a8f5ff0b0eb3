pub mod Replies
pub mod Nexts
pub mod CountingIo
pub mod Bytes
pub mod Refusals
pub mod StreamCalls
pub mod StreamEnd
