-- Lists item by item, calls and questions one after the other, names that are the same, and what one write does to a finite map.
pub mod AskedInTurn
pub mod Each
pub mod InTurn
pub mod Pairs
pub mod SameNames
pub mod Writes
