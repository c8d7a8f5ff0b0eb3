-- From a lawful world each call is served and leads to a lawful world: family by family for the layout, the vehicles and their trips. The half of the loads and the jobs is in `stock`.
pub mod LawfulServed
pub mod LawfulSteps
pub mod LawfulVehicles
pub mod LawfulVehiclesGiven
pub mod LawfulVehiclesOrders
pub mod LawfulVehiclesDrives
pub mod LawfulVehiclesPlain
pub mod LawfulVehiclesRows
pub mod LawfulVehiclesStates
pub mod LawfulVehiclesTrips
pub mod LawfulVehiclesWritten
