-- Derived, not the promise: the joint invariant (`IsLawful` of Lawful.antt) in the two parts that the proofs and the tests of tables take one after the other: first the layout, the vehicles and their trips; then the loads and the jobs (`lawful_laws`).
use Rattle.std.specs.Prelude.{◌≡◌, ◌⊎◌, ℕ, ◌+◌, ◌<◌, ◌≤◌, true, List, count_by, None, Some}
use Rattle.std.specs.FinMap as finite
use Rattle.std.specs.FinSet as set
use Rattle.agv_header.specs.Limits.{most_records, most_vehicles}
use Rattle.agv_header.specs.Name.{IsName}
use Rattle.agv_header.specs.declared.key.VehicleKey.{VehicleKey}
use Rattle.agv_layout.specs.Layout.{Layout, KeepsRules, IsNode}
use Rattle.agv_message_core.specs.declared.instant.InstantKind.{InstantKind}
use Rattle.agv_order.specs.Trips.{node_at}
use Rattle.agv_order.specs.WellFormed.{IsWellFormed}
use Rattle.agv_order.specs.declared.trip.Trip.{Trip}
use Rattle.agv_stock.specs.declared.place.Place.{Place}
use Rattle.agv_world_core.specs.ConsistentTrips.{IsVehicle, HasTrip, HasOneTripAnOrder, SharesNothing}
use Rattle.agv_world_core.specs.Lawful.{IsJob, IsJobIn, IsKey, IsPlaceIn, IsRestAt, IsSent, JoinsJobsAndLoads, KeepsRoom, is_to_drop, other_loads, picks}
use Rattle.agv_world_core.specs.Questions.{loads_on}
use Rattle.agv_world_core.specs.Worlds.{Vehicle, World, empty_layout}
use Rattle.agv_world_core.specs.declared.row.JobRow.{JobRow}
use Rattle.agv_world_core.specs.declared.row.VehicleRow.{VehicleRow}

-- ---- the layout, the vehicles and their trips

-- a vehicle by itself: its capacity, its node, its rest and its counters
pub record IsVehicleOf (seats : ℕ) (layout : Layout) (row : VehicleRow) : Type 0 where
  pub carries : 1 ≤ row.capacity
  pub seated : row.capacity ≤ seats
  pub node : IsNode layout row.node
  pub rest : IsRestAt layout row.node row.rest
  pub header : (number : ℕ) → row.last_header ≡ Some number → number ≤ 4294967295
  pub reported : (order : List ℕ) → row.reported ≡ Some order → IsName order
  pub orders : IsSent row.orders
  pub instants : IsSent row.instants
  pub pending : (kind : InstantKind) → row.pending ≡ Some kind → 0 < row.instants.count

-- an open trip with its vehicle, whose capacity is at least the number of the trip's picks
pub record IsTripOf (layout : Layout) (key : VehicleKey) (row : VehicleRow) (trip : Trip) : Type 0 where
  pub well_formed : IsWellFormed layout trip
  pub own : trip.vehicle ≡ key
  pub picks_fit : count_by picks trip.acts ≤ row.capacity
  pub sent : 0 < row.orders.count
  pub stands : node_at trip trip.seen ≡ Some row.node
  pub no_rest : row.rest ≡ None

-- the layout, the vehicles and their trips are lawful; their footprints, which list what each vehicle occupies, are apart
pub record HasLawfulVehicles (seats : ℕ) (world : World) : Type 0 where
  pub laid : (world.layout ≡ empty_layout) ⊎ KeepsRules world.layout
  pub few_vehicles : finite.len world.vehicles ≤ most_vehicles
  pub few_orders : set.len world.orders ≤ most_records
  pub few_references : set.len world.references ≤ most_records
  pub vehicles_named : (key : VehicleKey) (vehicle : Vehicle) → IsVehicle world key vehicle → IsKey key
  pub orders_named : (name : List ℕ) → set.contains world.orders name ≡ true → IsName name
  pub references_named : (name : List ℕ) → set.contains world.references name ≡ true → IsName name
  pub vehicles : (key : VehicleKey) (vehicle : Vehicle) → IsVehicle world key vehicle → IsVehicleOf seats world.layout vehicle.row
  pub trips : (key : VehicleKey) (vehicle : Vehicle) (trip : Trip) → IsVehicle world key vehicle → vehicle.trip ≡ Some trip → IsTripOf world.layout key vehicle.row trip
  pub used : (key : VehicleKey) (trip : Trip) → HasTrip world key trip → set.contains world.orders trip.order ≡ true
  pub one_trip : HasOneTripAnOrder world
  pub apart : SharesNothing world

-- ---- loads and jobs

-- the loads and the jobs are lawful
pub record HasLawfulLoads (world : World) : Type 0 where
  pub few_loads : finite.len world.places ≤ most_records
  pub few_jobs : finite.len world.jobs ≤ most_records
  pub loads_named : (load : List ℕ) (place : Place) → finite.get world.places load ≡ Some place → IsName load
  pub jobs_named : (job : List ℕ) (row : JobRow) → IsJob world job row → IsName job
  pub places : (load : List ℕ) (place : Place) → finite.get world.places load ≡ Some place → IsPlaceIn world place
  pub jobs : (job : List ℕ) (row : JobRow) → IsJob world job row → IsJobIn world row
  pub room : KeepsRoom world
  pub idle : (key : VehicleKey) (vehicle : Vehicle) → IsVehicle world key vehicle → vehicle.trip ≡ None → loads_on world key ≤ vehicle.row.capacity
  pub within_capacity : (key : VehicleKey) (vehicle : Vehicle) (trip : Trip) → IsVehicle world key vehicle → vehicle.trip ≡ Some trip → other_loads world key trip + count_by is_to_drop trip.acts ≤ vehicle.row.capacity
  pub joined : JoinsJobsAndLoads world
