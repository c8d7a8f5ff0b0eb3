-- What the bodies of requests say: calls that are well typed, and lists that take no more bytes than the body.
pub mod CountNames
pub mod CountSizes
pub mod Readings
pub mod RecordSizes
pub mod SaidCounts
pub mod TypedBodies
