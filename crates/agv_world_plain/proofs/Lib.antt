mod Carrying
mod HeldBy
mod Holding
mod NoStorage
