-- Worlds whose trips are consistent with each other, so that their maps determine the world.
use Rattle.std.specs.Prelude.{◌≡◌, Some}
use Rattle.std.specs.FinMap as map
use Rattle.std.specs.List.{AllByRecursion, Contains}
use Rattle.agv_header.specs.declared.key.Thing.{Thing}
use Rattle.agv_header.specs.declared.key.VehicleKey.{VehicleKey}
use Rattle.agv_order.specs.WellFormed.{IsEdgeOf}
use Rattle.agv_order.specs.declared.trip.Trip.{Trip}
use Rattle.agv_track_holds.specs.Footprints.{footprint_of}
use Rattle.agv_world_core.specs.Maps.{standing_of}
use Rattle.agv_world_core.specs.Worlds.{Vehicle, World}

-- the vehicle is in the world
abbrev pub IsVehicle : World → VehicleKey → Vehicle → Type 0
IsVehicle world key vehicle = map.get world.vehicles key ≡ Some vehicle

-- the vehicle has this open trip
abbrev pub HasTrip : World → VehicleKey → Trip → Type 0
HasTrip world key trip = (vehicle : Vehicle) × IsVehicle world key vehicle × (vehicle.trip ≡ Some trip)

-- the node or edge is in the footprint of the vehicle
abbrev pub IsHolder : World → VehicleKey → Thing → Type 0
IsHolder world key thing = (vehicle : Vehicle) × IsVehicle world key vehicle × Contains (footprint_of (standing_of vehicle)) thing

-- no two vehicles have open trips of the same order
abbrev pub HasOneTripAnOrder : World → Type 0
HasOneTripAnOrder world = (one other : VehicleKey) (trip further : Trip) → HasTrip world one trip → HasTrip world other further → trip.order ≡ further.order → one ≡ other

-- each trip names the vehicle that has it open
abbrev pub NamesItsVehicle : World → Type 0
NamesItsVehicle world = (key : VehicleKey) (trip : Trip) → HasTrip world key trip → trip.vehicle ≡ key

-- each edge of an open trip is an edge of the layout
abbrev pub DrivesOnLayout : World → Type 0
DrivesOnLayout world = (key : VehicleKey) (trip : Trip) → HasTrip world key trip → AllByRecursion (IsEdgeOf world.layout) trip.edges

-- no node or edge is in the footprints of two vehicles
abbrev pub SharesNothing : World → Type 0
SharesNothing world = (one other : VehicleKey) (thing : Thing) → IsHolder world one thing → IsHolder world other thing → one ≡ other

-- the trips are consistent: what is needed for the maps to determine the world
pub record HasConsistentTrips (world : World) : Type 0 where
  pub one_trip : HasOneTripAnOrder world
  pub own : NamesItsVehicle world
  pub known : DrivesOnLayout world
