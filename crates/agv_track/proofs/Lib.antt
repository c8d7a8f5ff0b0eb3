pub mod Ids
pub mod Numbered
pub mod Renewals
pub mod Judged
pub mod Eight
pub mod Judging
