-- Answers byte by byte: how long heads and bodies are, that an answer fits in the buffer for it, and what holds at the end of each ladder of refusals.
pub mod Escapes
pub mod Fitting
pub mod Ladders
pub mod LastWords
pub mod Lengths
pub mod Outcomes
pub mod QuestionLengths
pub mod RefusalNames
pub mod Requested
pub mod ShortRefusals
pub mod Turning
