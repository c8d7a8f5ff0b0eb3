-- Which rows a world has, under which keys, and that no two vehicles give a row of one key. The maps of a world with consistent trips tell which world it is.
pub mod Apart
pub mod Empty
pub mod Holders
pub mod RowKeys
pub mod Spreads
pub mod Unique
pub mod UsedKeys
