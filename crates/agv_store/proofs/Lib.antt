mod CallsInTurn
mod CallsServed
mod Crashes
mod Deciding
mod Found
mod Moving
mod Reporting
mod Writing
