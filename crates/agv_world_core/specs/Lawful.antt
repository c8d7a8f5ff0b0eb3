-- The joint invariant: what is true of the world of a desk after every list of calls (this project's profile).
-- One record for each group of rules, and `IsLawful` has them all.
use Rattle.std.specs.Prelude.{◌≡◌, ◌↔◌, ◌⊎◌, ℕ, ◌+◌, ◌<◌, ◌≤◌, ◌&&◌, not, nat_eq, Bool, true, false, List, length, count_by, Option, None, Some, Contains}
use Rattle.std.specs.Cmp.Lexicographic.{pointwise}
use Rattle.std.specs.FinMap as finite
use Rattle.std.specs.FinSet as set
use Rattle.std.specs.List.{list_any}
use Rattle.agv_header.specs.Limits.{most_records, most_vehicles}
use Rattle.agv_header.specs.Name.{IsName}
use Rattle.agv_header.specs.declared.key.Thing.{Thing}
use Rattle.agv_header.specs.declared.key.VehicleKey.{VehicleKey}
use Rattle.agv_layout.specs.Layout.{Layout, KeepsRules, IsNode, IsEdge, IsStation}
use Rattle.agv_layout.specs.declared.station.StationSite.{StationSite}
use Rattle.agv_message_core.specs.declared.instant.InstantKind.{InstantKind}
use Rattle.agv_message_core.specs.declared.order.ActKind.{ActKind}
use Rattle.agv_message_core.specs.declared.order.ActKind.TheVariants.{Pick, Drop}
use Rattle.agv_order.specs.Statuses.{is_finished}
use Rattle.agv_order.specs.Stops.{is_drop, is_pick}
use Rattle.agv_order.specs.Trips.{node_at}
use Rattle.agv_order.specs.WellFormed.{IsWellFormed}
use Rattle.agv_order.specs.declared.act.Act.{Act}
use Rattle.agv_order.specs.declared.trip.Trip.{Trip}
use Rattle.agv_stock.specs.Phase.{is_live}
use Rattle.agv_stock.specs.Rooms.{is_on}
use Rattle.agv_stock.specs.declared.job.Phase.TheVariants as phase
use Rattle.agv_stock.specs.declared.place.Place.{Place}
use Rattle.agv_stock.specs.declared.place.Place.TheVariants as place
use Rattle.agv_track_holds.specs.Footprints.{Occupies}
use Rattle.agv_world_core.specs.ConsistentTrips.{IsVehicle, HasTrip, HasOneTripAnOrder}
use Rattle.agv_world_core.specs.Questions.{loads_at, loads_on, reserved}
use Rattle.agv_world_core.specs.Maps.{standing_of}
use Rattle.agv_world_core.specs.Worlds.{Vehicle, World, empty_layout}
use Rattle.agv_world_core.specs.declared.row.JobRow.{JobRow}
use Rattle.agv_world_core.specs.declared.row.Sent.{Sent}
use Rattle.agv_world_core.specs.declared.row.VehicleRow.{VehicleRow}

-- ---- the layout, and limits

pub record HasLayoutAndLimits (world : World) : Type 0 where
  -- the layout is not set yet, or follows the rules of a layout
  pub laid : (world.layout ≡ empty_layout) ⊎ KeepsRules world.layout
  -- at most 100 vehicles, and 1,000,000 each of orders, references, loads and jobs;
  -- the loads that have left and the jobs that are over are counted too
  pub few_vehicles : finite.len world.vehicles ≤ most_vehicles
  pub few_orders : set.len world.orders ≤ most_records
  pub few_references : set.len world.references ≤ most_records
  pub few_loads : finite.len world.places ≤ most_records
  pub few_jobs : finite.len world.jobs ≤ most_records

-- ---- names

-- manufacturer and serial number are names
abbrev pub IsKey : VehicleKey → Type 0
IsKey key = IsName key.manufacturer × IsName key.serial

-- the station or the vehicle that the place names is known
abbrev pub IsPlaceIn : World → Place → Type 0
IsPlaceIn world (place.Station id) = (site : StationSite) × IsStation world.layout id site
IsPlaceIn world (place.Vehicle key) = (vehicle : Vehicle) × IsVehicle world key vehicle
IsPlaceIn world place.Checking = Unit {0}
IsPlaceIn world place.Left = Unit {0}

-- the world has the job, with this row
abbrev pub IsJob : World → List ℕ → JobRow → Type 0
IsJob world job row = finite.get world.jobs job ≡ Some row

-- the load and the stations of a job are known
pub record IsJobIn (world : World) (row : JobRow) : Type 0 where
  pub load : (place : Place) × (finite.get world.places row.load ≡ Some place)
  pub origin : (site : StationSite) × IsStation world.layout row.origin site
  pub target : (site : StationSite) × IsStation world.layout row.target site

pub record KnowsItsNames (world : World) : Type 0 where
  -- manufacturers, serial numbers, and the names of orders, references, loads and jobs are valid names
  pub vehicles_named : (key : VehicleKey) (vehicle : Vehicle)
      → IsVehicle world key vehicle → IsKey key
  pub orders_named : (name : List ℕ) → set.contains world.orders name ≡ true → IsName name
  pub references_named : (name : List ℕ) → set.contains world.references name ≡ true → IsName name
  pub loads_named : (load : List ℕ) (place : Place)
      → finite.get world.places load ≡ Some place → IsName load
  pub jobs_named : (job : List ℕ) (row : JobRow) → IsJob world job row → IsName job
  -- the station or the vehicle of each load's place is known, and so are the load and the stations of each job
  pub places : (load : List ℕ) (place : Place)
      → finite.get world.places load ≡ Some place → IsPlaceIn world place
  pub jobs : (job : List ℕ) (row : JobRow) → IsJob world job row → IsJobIn world row
  -- the name of an open trip's order was used as the name of an order
  pub used : (key : VehicleKey) (trip : Trip)
      → HasTrip world key trip → set.contains world.orders trip.order ≡ true

-- ---- track

-- the vehicle occupies the node or edge: without a trip its node and its rest;
-- with a trip what the trip has from the last node that was seen to the last node that is released
abbrev pub IsOccupant : World → VehicleKey → Thing → Type 0
IsOccupant world key thing =
    (vehicle : Vehicle) × IsVehicle world key vehicle × Occupies (standing_of vehicle) thing

pub record KeepsTrackApart (world : World) : Type 0 where
  -- no two vehicles occupy the same node or edge
  pub apart : (one other : VehicleKey) (thing : Thing)
      → IsOccupant world one thing → IsOccupant world other thing → one ≡ other

-- ---- room at stations

pub record KeepsRoom (world : World) : Type 0 where
  -- the loads at a station and the live jobs to it together are at most its capacity
  pub room : (station : List ℕ) (site : StationSite)
      → IsStation world.layout station site
      → length (loads_at world station) + reserved world station ≤ site.capacity

-- ---- capacity of vehicles

-- the act picks a load up
abbrev pub picks : Act → Bool
picks act = is_pick act.kind

-- the act is a drop that is not finished
abbrev pub is_to_drop : Act → Bool
is_to_drop act = is_drop act.kind && not (is_finished act.status)

-- the trip has an unfinished drop of the load
abbrev pub is_load_of : Trip → List ℕ → Bool
is_load_of trip load =
    list_any (λ (act : Act). is_to_drop act && pointwise nat_eq act.load load) trip.acts

-- the number of loads on the vehicle of which the trip has no unfinished drop
abbrev pub other_loads : World → VehicleKey → Trip → ℕ
other_loads world key trip =
    count_by (λ (load : List ℕ × Place). is_on key load.1 && not (is_load_of trip load.0))
    (finite.entries world.places)

pub record KeepsCapacity (seats : ℕ) (world : World) : Type 0 where
  -- a vehicle has a capacity from 1 to `seats`
  pub carries : (key : VehicleKey) (vehicle : Vehicle)
      → IsVehicle world key vehicle → 1 ≤ vehicle.row.capacity
  pub seated : (key : VehicleKey) (vehicle : Vehicle)
      → IsVehicle world key vehicle → vehicle.row.capacity ≤ seats
  -- a vehicle without a trip carries at most its capacity; with a trip, its other loads and the trip's unfinished drops together
  -- are at most its capacity, and so are the trip's picks
  pub idle : (key : VehicleKey) (vehicle : Vehicle)
      → IsVehicle world key vehicle → vehicle.trip ≡ None
      → loads_on world key ≤ vehicle.row.capacity
  pub within_capacity : (key : VehicleKey) (vehicle : Vehicle) (trip : Trip)
      → IsVehicle world key vehicle → vehicle.trip ≡ Some trip
      → other_loads world key trip + count_by is_to_drop trip.acts ≤ vehicle.row.capacity
  pub picks_fit : (key : VehicleKey) (vehicle : Vehicle) (trip : Trip)
      → IsVehicle world key vehicle → vehicle.trip ≡ Some trip
      → count_by picks trip.acts ≤ vehicle.row.capacity

-- ---- jobs and loads

-- the vehicle has the trip open, and this is an act of the trip
pub record HasAct (world : World) (key : VehicleKey) (trip : Trip) (act : Act) : Type 0 where
  pub open_trip : HasTrip world key trip
  pub among : Contains trip.acts act

-- an open trip has an unfinished drop of the job
pub record IsToDrop (world : World) (job : List ℕ) : Type 0 where
  pub key : VehicleKey
  pub trip : Trip
  pub act : Act
  pub has : HasAct world key trip act
  pub drop : act.kind ≡ Drop
  pub of_job : act.job ≡ job
  pub undone : is_finished act.status ≡ false

-- the station where an act takes place: a pick at the job's origin, a drop at its target
abbrev pub station_for : ActKind → JobRow → List ℕ
station_for Pick row = row.origin
station_for Drop row = row.target

-- the act names the load and the station of its job
pub record NamesItsJob (world : World) (act : Act) : Type 0 where
  pub row : JobRow
  pub job : IsJob world act.job row
  pub load : row.load ≡ act.load
  pub station : station_for act.kind row ≡ act.station

-- where the load of a riding job is: at the origin until its pick is finished, and then on the vehicle
abbrev pub carried_at : VehicleKey → List ℕ → Bool → Place
carried_at key origin false = place.Station origin
carried_at key origin true = place.Vehicle key

pub record JoinsJobsAndLoads (world : World) : Type 0 where
  -- a load has at most one live job
  pub one_job : (one other : List ℕ) (row further : JobRow)
      → IsJob world one row → IsJob world other further → is_live row.phase ≡ true
      → is_live further.phase ≡ true
      → row.load ≡ further.load → one ≡ other
  -- a job is riding exactly if an open trip has an unfinished drop of it; if the drop is finished, the job is done
  pub riding : (job : List ℕ) (row : JobRow)
      → IsJob world job row → (row.phase ≡ phase.Riding) ↔ IsToDrop world job
  pub done : (key : VehicleKey) (trip : Trip) (act : Act) (row : JobRow)
      → HasAct world key trip act → act.kind ≡ Drop → is_finished act.status ≡ true
      → IsJob world act.job row
      → row.phase ≡ phase.Done
  -- a job is in at most one open trip
  pub one_vehicle : (one other : VehicleKey) (trip further : Trip) (act more : Act)
      → HasAct world one trip act → HasAct world other further more → act.job ≡ more.job
      → one ≡ other
  -- the load of a waiting job is at the origin; the load of a live job with a pick in an open trip is there until the pick is finished,
  -- and then on the vehicle
  pub waiting : (job : List ℕ) (row : JobRow)
      → IsJob world job row → row.phase ≡ phase.Waiting
      → finite.get world.places row.load ≡ Some (place.Station row.origin)
  pub carried : (key : VehicleKey) (trip : Trip) (act : Act) (row : JobRow)
      → HasAct world key trip act → act.kind ≡ Pick → IsJob world act.job row
      → is_live row.phase ≡ true
      → finite.get world.places row.load ≡ Some (carried_at key row.origin (is_finished act.status))
  -- each act of an open trip names the load and the station of its job
  pub acts : (key : VehicleKey) (trip : Trip) (act : Act)
      → HasAct world key trip act → NamesItsJob world act

-- ---- trips

-- the trip is well formed, names its vehicle, and was sent; the vehicle stands at the last node that was seen, and has no rest
pub record IsOpenTrip (layout : Layout) (key : VehicleKey) (row : VehicleRow) (trip : Trip) : Type 0 where
  pub well_formed : IsWellFormed layout trip
  pub own : trip.vehicle ≡ key
  pub sent : 0 < row.orders.count
  pub stands : node_at trip trip.seen ≡ Some row.node
  pub no_rest : row.rest ≡ None

pub record KeepsTrips (world : World) : Type 0 where
  -- each open trip is an `IsOpenTrip` of its vehicle
  pub open_trips : (key : VehicleKey) (vehicle : Vehicle) (trip : Trip)
      → IsVehicle world key vehicle → vehicle.trip ≡ Some trip
      → IsOpenTrip world.layout key vehicle.row trip
  -- no order has two open trips
  pub one_trip : HasOneTripAnOrder world

-- ---- rests and counters

-- how many messages of a topic were sent, and when the last one was made: the moment is before 2100, and 0 if none was sent
pub record IsSent (sent : Sent) : Type 0 where
  pub number : sent.count ≤ 4294967295
  pub moment : sent.at ≤ 4102444799999
  pub none : sent.count ≡ 0 → sent.at ≡ 0

-- if there is a rest, it is an edge that starts at the vehicle's node, with the node where it ends
abbrev pub IsRestAt : Layout → List ℕ → Option (List ℕ × List ℕ) → Type 0
IsRestAt layout node None = Unit {0}
IsRestAt layout node (Some rest) = IsEdge layout rest.0 (record { start = node; finish = rest.1 })

-- a vehicle's node and rest are the layout's, and its counters are in range; an instant action is pending only if one was sent
pub record HasRestAndCounters (layout : Layout) (row : VehicleRow) : Type 0 where
  pub node : IsNode layout row.node
  pub rest : IsRestAt layout row.node row.rest
  pub header : (number : ℕ) → row.last_header ≡ Some number → number ≤ 4294967295
  pub reported : (order : List ℕ) → row.reported ≡ Some order → IsName order
  pub orders : IsSent row.orders
  pub instants : IsSent row.instants
  pub pending : (kind : InstantKind) → row.pending ≡ Some kind → 0 < row.instants.count

pub record KeepsRestsAndCounters (world : World) : Type 0 where
  -- each vehicle has its rest and its counters in order
  pub vehicles : (key : VehicleKey) (vehicle : Vehicle)
      → IsVehicle world key vehicle → HasRestAndCounters world.layout vehicle.row

-- ---- all of it

-- the world is lawful, with capacities of vehicles up to `seats`
pub record IsLawful (seats : ℕ) (world : World) : Type 0 where
  pub limits : HasLayoutAndLimits world
  pub names : KnowsItsNames world
  pub track : KeepsTrackApart world
  pub room : KeepsRoom world
  pub capacity : KeepsCapacity seats world
  pub jobs : JoinsJobsAndLoads world
  pub trips : KeepsTrips world
  pub rests : KeepsRestsAndCounters world
