pub mod Footprints
pub mod OrderedSet
pub mod HoldCode
pub mod Holders
pub mod Holds
