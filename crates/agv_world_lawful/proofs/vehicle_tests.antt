-- The tests of the layout, the vehicles and their trips pass just where the tables are those of a world with lawful vehicles.
pub mod ApartTests
pub mod FitTests
pub mod KeepsTold
pub mod KeptTests
pub mod LaidTests
pub mod LawfulVehiclesPass
pub mod VehicleRowTests
pub mod VehicleTests
