mod Among
mod Drafts
mod FirstWalks
mod Followed
mod InOrder
mod Joined
mod LayoutGiven
mod Levels
mod Loops
mod Maps
mod Nearest
mod Noted
mod Order
pub mod RouteFound
mod Routes
mod Rows
mod RowsBack
mod Sound
mod Uniques
pub mod Walking
