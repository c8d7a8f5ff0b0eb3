-- Orders of names, tests of each element, finite maps with the trees that keep them, and questions to a floor one after the other.
pub mod Asking
pub mod EachElement
pub mod EachEntry
pub mod Entries
pub mod InOrder
pub mod Orders
pub mod Puts
pub mod SameNames
pub mod Shown
