-- The router over the table of routes: what a path fits, what a match took from it, and that no path fits two lines.
pub mod Apart
pub mod Fits
pub mod Inserting
pub mod Naming
pub mod Parameters
pub mod Patterns
pub mod RouterLines
pub mod RouterMatches
pub mod Seeking
pub mod Segments
pub mod Walks
