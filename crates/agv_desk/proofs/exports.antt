-- What the exports of jobs and vehicles tell of a world.
pub mod CarriersTold
pub mod JobTold
pub mod JobsTold
pub mod VehiclesTold
