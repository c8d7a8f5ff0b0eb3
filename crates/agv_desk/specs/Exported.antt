-- What is told of a job, by the export of jobs or by itself: the vehicle that carries it out.
use Rattle.std.specs.Prelude.{◌≡◌, ℕ, List, Some}
use Rattle.agv_count_exports.specs.declared.told.VehicleTold.{VehicleTold}
use Rattle.agv_header.specs.declared.key.VehicleKey.{VehicleKey}
use Rattle.agv_order.specs.declared.act.Act.{Act}
use Rattle.agv_order.specs.declared.trip.Trip.{Trip}
use Rattle.agv_world_core.specs.ConsistentTrips.{IsVehicle}
use Rattle.agv_world_core.specs.Lawful.{HasAct, IsToDrop}
use Rattle.agv_world_core.specs.Worlds.{World}
use Rattle.agv_world_core.specs.declared.floor.Carrier.{Carrier}

-- the vehicle is one of the world, told with its row and its open trip; this trip has an unfinished drop of the job, and no other vehicle's open trip has an act of it
pub record IsCarrier (world : World) (job : List ℕ) (vehicle : VehicleTold) : Type 0 where
  pub known : IsVehicle world vehicle.key (record { row = vehicle.row; trip = vehicle.trip })
  pub to_drop : IsToDrop world job
  pub own : to_drop.key ≡ vehicle.key
  pub open_trip : vehicle.trip ≡ Some to_drop.trip
  pub only : (key : VehicleKey) (trip : Trip) (act : Act) → HasAct world key trip act → act.job ≡ job → key ≡ vehicle.key

-- the open trip of the vehicle is that of the order, and has an unfinished drop of the job; no other vehicle's open trip has an act of it
pub record IsCarriedBy (world : World) (job : List ℕ) (carrier : Carrier) : Type 0 where
  pub to_drop : IsToDrop world job
  pub vehicle : to_drop.key ≡ carrier.vehicle
  pub order : to_drop.trip.order ≡ carrier.order
  pub only : (key : VehicleKey) (trip : Trip) (act : Act) → HasAct world key trip act → act.job ≡ job → key ≡ carrier.vehicle
