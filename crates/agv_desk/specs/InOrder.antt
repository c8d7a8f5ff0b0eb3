-- Derived, not the promise: the part of a lawful world (agv_world_core, Lawful.antt) on which the rows of a call depend.
use Rattle.std.specs.Prelude.{◌≡◌, ◌≤◌, ◌⊎◌, true, length}
use Rattle.std.specs.FinSet as set
use Rattle.agv_header.specs.declared.key.VehicleKey.{VehicleKey}
use Rattle.agv_layout.specs.Layout.{KeepsRules}
use Rattle.agv_order.specs.WellFormed.{IsUnderWay}
use Rattle.agv_order.specs.declared.trip.Trip.{Trip}
use Rattle.agv_world_core.specs.ConsistentTrips.{HasTrip, HasOneTripAnOrder, SharesNothing}
use Rattle.agv_world_core.specs.Worlds.{World, empty_layout}

-- an open trip is under way, over at most 200 edges with at most eight acts
pub record IsOpen (trip : Trip) : Type 0 where
  pub under_way : IsUnderWay trip
  pub short : length trip.edges ≤ 200
  pub few : length trip.acts ≤ 8

-- the layout is empty or follows the rules; no order has two trips, and the name of each open order was used; each open trip is an `IsOpen`; and no node or edge is in the footprints of two vehicles
pub record IsInOrder (world : World) : Type 0 where
  pub laid : (world.layout ≡ empty_layout) ⊎ KeepsRules world.layout
  pub one_trip : HasOneTripAnOrder world
  pub used : (key : VehicleKey) (trip : Trip) → HasTrip world key trip → set.contains world.orders trip.order ≡ true
  pub open_trips : (key : VehicleKey) (trip : Trip) → HasTrip world key trip → IsOpen trip
  pub apart : SharesNothing world
