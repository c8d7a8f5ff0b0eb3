-- The questions about what the desk knows (this project's profile).
use Rattle.std.specs.Prelude.{ℕ, ◌&&◌, ◌==◌, nat_eq, not, Bool, List, map, length, filter, find, count_by, Option, None, Some, Result, Ok, Err}
use Rattle.std.specs.Cmp.Lexicographic.{pointwise}
use Rattle.std.specs.FinMap as finite
use Rattle.std.specs.FinSet as set
use Rattle.std.specs.Map.{keys_of}
use Rattle.std.specs.Option.{option_map, option_and_then}
use Rattle.agv_header.specs.Name.{name_cmp}
use Rattle.agv_header.specs.declared.key.Thing.{Thing}
use Rattle.agv_header.specs.declared.key.VehicleKey.{VehicleKey}
use Rattle.agv_layout.specs.Layout.{Layout, station_of}
use Rattle.agv_layout.specs.LayoutOf.{layout_of, rows_in}
use Rattle.agv_layout.specs.declared.fault.LayoutFault.{LayoutFault}
use Rattle.agv_layout.specs.declared.station.StationSite.{StationSite}
use Rattle.agv_layout.specs.declared.station.Station.{Station}
use Rattle.agv_order.specs.declared.trip.Trip.{Trip}
use Rattle.agv_stock.specs.Phase.{is_live}
use Rattle.agv_stock.specs.Rooms.{is_at, is_on, room_left}
use Rattle.agv_stock.specs.declared.place.Place.{Place}
use Rattle.agv_world_core.specs.Maps.{maps_of}
use Rattle.agv_world_core.specs.Worlds.{Vehicle, World}
use Rattle.agv_world_core.specs.declared.floor.Counted.{Counted}
use Rattle.agv_world_core.specs.declared.floor.Counted.TheVariants as counted
use Rattle.agv_world_core.specs.declared.key.UseKind.{UseKind}
use Rattle.agv_world_core.specs.declared.key.UseKind.TheVariants as used
use Rattle.agv_world_core.specs.declared.row.JobRow.{JobRow}
use Rattle.agv_world_core.specs.declared.row.VehicleRow.{VehicleRow}

-- ---- the layout and the vehicles

-- the layout of the result, if it has one
abbrev pub given : Result Layout LayoutFault → Option Layout
given (Ok layout) = Some layout
given (Err why) = None

-- the layout, once it is set: before that it is the empty one, whose rows give no layout
unfoldable pub layout_set : World → Option Layout
layout_set world = given (layout_of (rows_in world.layout))

-- the row of a vehicle
abbrev pub row_of : World → VehicleKey → Option VehicleRow
row_of world key = option_map (λ (vehicle : Vehicle). vehicle.row) (finite.get world.vehicles key)

-- the open trip of a vehicle
abbrev pub trip_of : World → VehicleKey → Option Trip
trip_of world key = option_and_then (λ (vehicle : Vehicle). vehicle.trip) (finite.get world.vehicles key)

-- the vehicle in whose footprint a node or edge is
unfoldable pub holder_of : World → Thing → Option VehicleKey
holder_of world thing = finite.get (maps_of world).holds thing

-- ---- the loads and the jobs

-- the loads at a station, in the order of their names
unfoldable pub loads_at : World → List ℕ → List (List ℕ)
loads_at world station = keys_of (filter (λ (load : List ℕ × Place). is_at station load.1) (finite.entries world.places))

-- the number of these loads that are on a vehicle
abbrev pub loads_on_vehicle : finite.FinMap name_cmp Place → VehicleKey → ℕ
loads_on_vehicle places key = count_by (λ (load : List ℕ × Place). is_on key load.1) (finite.entries places)

-- the number of loads on a vehicle
unfoldable pub loads_on : World → VehicleKey → ℕ
loads_on world key = loads_on_vehicle world.places key

-- the job is live and for this load
abbrev pub is_live_for : List ℕ → JobRow → Bool
is_live_for load job = is_live job.phase && pointwise nat_eq job.load load

-- the live job of a load, or the first one by name if there are several
unfoldable pub job_of : World → List ℕ → Option (List ℕ)
job_of world load = option_map (λ (job : List ℕ × JobRow). job.0) (find (λ (job : List ℕ × JobRow). is_live_for load job.1) (finite.entries world.jobs))

-- the job is live and goes to this station
abbrev pub is_live_to : List ℕ → JobRow → Bool
is_live_to station job = is_live job.phase && pointwise nat_eq job.target station

-- the number of live jobs to a station: each reserves room for one load
abbrev pub reserved_by : finite.FinMap name_cmp JobRow → List ℕ → ℕ
reserved_by jobs station = count_by (λ (job : List ℕ × JobRow). is_live_to station job.1) (finite.entries jobs)

-- the number of live jobs of the world to a station
unfoldable pub reserved : World → List ℕ → ℕ
reserved world station = reserved_by world.jobs station

-- the stations in the order of their names, each with the number of live jobs to it
abbrev pub stations_told : World → List (Station × ℕ)
stations_told world = map (λ (site : List ℕ × StationSite). (station_of site.0 site.1, reserved world site.0)) (finite.entries world.layout.stations)

-- how many more loads fit at a station: its capacity, less the loads there, less the live jobs to it; none if there is no such station
unfoldable pub room_at : World → List ℕ → Option ℕ
room_at world station =
    option_map (λ (site : StationSite). room_left site.capacity (length (loads_at world station)) (reserved world station)) (finite.get world.layout.stations station)

-- one more load fits at a station; none if there is no such station
abbrev pub has_room_at : World → List ℕ → Option Bool
has_room_at world station = option_map (λ (room : ℕ). not (room == 0)) (room_at world station)

-- ---- the names that were used, and the counts

-- the name was used in this kind
unfoldable pub is_used : World → UseKind → List ℕ → Bool
is_used world used.Order name = set.contains world.orders name
is_used world used.Reference name = set.contains world.references name

-- the number of vehicles, loads, jobs, names of orders or references
unfoldable pub count_of : World → Counted → ℕ
count_of world counted.Vehicles = finite.len world.vehicles
count_of world counted.Loads = finite.len world.places
count_of world counted.Jobs = finite.len world.jobs
count_of world counted.Orders = set.len world.orders
count_of world counted.References = set.len world.references
