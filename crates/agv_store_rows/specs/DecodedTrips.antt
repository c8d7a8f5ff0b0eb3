-- The vehicles and the open trips that the tables of rows encode: a vehicle with its capacity, and a trip from its journey, its acts, the rows of their jobs and its edges.
use Rattle.std.specs.Prelude.{◌≡◌, Bool, List, ℕ, Option, Some, filter, map}
use Rattle.std.specs.FinMap as finite
use Rattle.std.specs.List.{filter_map, find}
use Rattle.std.specs.Option.{option_map}
use Rattle.sqlite_value.specs.Order.{Row}
use Rattle.agv_header.specs.Key.{key_cmp}
use Rattle.agv_header.specs.KeyOrder.{key_eq}
use Rattle.agv_header.specs.Name.{name_cmp}
use Rattle.agv_header.specs.declared.key.VehicleKey.{VehicleKey}
use Rattle.agv_layout.specs.declared.edge.Edge.{Edge}
use Rattle.agv_order.specs.declared.act.Act.{Act}
use Rattle.agv_order.specs.declared.trip.Trip.{Trip}
use Rattle.agv_store_rows.specs.ActKeys.{act_cmp}
use Rattle.agv_store_rows.specs.TripRows.{acts_of, is_of, journeys_of}
use Rattle.agv_store_rows.specs.TripsTold.{acts_told, trip_told}
use Rattle.agv_store_rows.specs.declared.act_row.ActRow.{ActRow}
use Rattle.agv_store_rows.specs.declared.journey_row.JourneyRow.{JourneyRow}
use Rattle.agv_world_core.specs.Maps.{Maps, trip_row}
use Rattle.agv_world_core.specs.Told.{edges_of, trip_in}
use Rattle.agv_world_core.specs.declared.row.JobRow.{JobRow}
use Rattle.agv_world_core.specs.declared.row.TripRow.{TripRow}
use Rattle.agv_world_core.specs.declared.row.VehicleRow.{VehicleRow}
use Rattle.agv_world_core.specs.declared.world.World.{World as Tables}
use Rattle.agv_store_rows.specs.declared.capacity_row.CapacityRow.{CapacityRow}
use Rattle.agv_store_rows.specs.Columns.{vehicle_in}
use Rattle.agv_store_rows.specs.ValueEncodings.{if_some}

-- ---- vehicles

-- the capacities of these vehicles
unfoldable pub capacities_of : finite.FinMap key_cmp VehicleRow → finite.FinMap key_cmp CapacityRow
capacities_of vehicles = finite.from_entries (map (λ (entry : VehicleKey × VehicleRow). (entry.0, record { capacity = entry.1.capacity })) (finite.entries vehicles))

-- the vehicle that a row encodes, with its capacity from this table, if it is there
abbrev pub vehicle_with : finite.FinMap key_cmp CapacityRow → Row → Option (VehicleKey × VehicleRow)
vehicle_with capacities row =
    if_some (vehicle_in row) (λ vehicle. if_some (finite.get capacities vehicle.0) (λ (own : CapacityRow). Some (vehicle.0, record vehicle.1 { capacity = own.capacity })))

-- ---- all trips

-- the order id and the trip of a journey, with those of these acts that belong to its order; none if an act's number is missing or its job is unknown
abbrev pub trip_with : finite.FinMap act_cmp ActRow → finite.FinMap name_cmp JobRow → List ℕ × JourneyRow → Option (List ℕ × TripRow)
trip_with acts jobs journey =
    option_map (λ (told : List Act). (journey.0, trip_told journey.1 told)) (acts_told jobs 0 (filter (is_of journey.0) (finite.entries acts)))

-- the trips of the journeys
abbrev pub trips_with : finite.FinMap name_cmp JourneyRow → finite.FinMap act_cmp ActRow → finite.FinMap name_cmp JobRow → finite.FinMap name_cmp TripRow
trips_with journeys acts jobs = finite.from_entries (filter_map (trip_with acts jobs) (finite.entries journeys))

-- ---- the trip of a vehicle

-- the tables in memory of these maps
abbrev pub tables_of : Maps → Tables
tables_of maps = record {
  nodes = maps.nodes;
  edges = maps.edges;
  stations = maps.stations;
  vehicles = maps.vehicles;
  trips = maps.trips;
  legs = maps.legs;
  loads = maps.loads;
  jobs = maps.jobs;
  used = maps.used;
}

-- the journey is the vehicle's
abbrev pub is_driven_by : VehicleKey → List ℕ × JourneyRow → Bool
is_driven_by key journey = key_eq journey.1.vehicle key

-- the journey of a vehicle: the first one of that vehicle, in the order of the order ids
abbrev pub journey_for : Maps → VehicleKey → Option (List ℕ × JourneyRow)
journey_for maps key = find (is_driven_by key) (finite.entries (journeys_of maps.trips))

-- the trip of a journey with the acts and the edges of its order, if the jobs of the acts are known
abbrev pub told_by_journey : Maps → List ℕ × JourneyRow → Option Trip
told_by_journey maps journey = option_map (λ trip. trip_in (tables_of maps) trip) (trip_with (acts_of maps.trips) maps.jobs journey)

-- the trip of a journey with these edges and these acts
abbrev pub trip_told_by : List ℕ × JourneyRow → List Edge → List Act → Trip
trip_told_by journey edges acts = record {
  order = journey.0;
  vehicle = journey.1.vehicle;
  start = journey.1.start;
  edges = edges;
  first = journey.1.first;
  base = journey.1.base;
  sent = journey.1.sent;
  confirmed = journey.1.confirmed;
  seen = journey.1.seen;
  acts = acts;
}

-- the maps have the trip's row at its order id, and its edges
abbrev pub HasTripRows : Maps → Trip → Type 0
HasTripRows maps trip =
    (finite.get maps.trips trip.order ≡ Some (trip_row trip.vehicle trip)) × (trip.edges ≡ edges_of (tables_of maps) trip.order)
