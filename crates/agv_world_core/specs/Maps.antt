-- A world as eleven maps, each from a key to the rest of its row: a change writes or removes one row.
-- (`rows_of`, in agv_store_rows, gives the rows of a world in the fourteen tables of a database.)
use Rattle.std.specs.Prelude.{ℕ, List, [], ◌∷◌, ◌++◌, map, Option, None, Some}
use Rattle.std.specs.Ordering.{nat_cmp}
use Rattle.std.specs.FinMap as finite
use Rattle.std.specs.FinSet as set
use Rattle.std.specs.List.{enumerate_from}
use Rattle.agv_header.specs.Key.{key_cmp, thing_cmp}
use Rattle.agv_header.specs.Name.{name_cmp}
use Rattle.agv_header.specs.SchemaNumber.{schema_number}
use Rattle.agv_header.specs.declared.key.Thing.{Thing}
use Rattle.agv_header.specs.declared.key.VehicleKey.{VehicleKey}
use Rattle.agv_layout.specs.declared.edge.Edge.{Edge}
use Rattle.agv_layout.specs.declared.edge.EdgeEnds.{EdgeEnds}
use Rattle.agv_layout.specs.declared.station.StationSite.{StationSite}
use Rattle.agv_order.specs.declared.trip.Trip.{Trip}
use Rattle.agv_stock.specs.declared.place.Place.{Place}
use Rattle.agv_track_holds.specs.Footprints.{footprint_of}
use Rattle.agv_track_holds.specs.declared.standing.Standing.{Standing}
use Rattle.agv_world_core.specs.Keys.{leg_cmp, use_cmp}
use Rattle.agv_header.specs.Spread.{spread}
use Rattle.agv_world_core.specs.Worlds.{Vehicle, World}
use Rattle.agv_world_core.specs.declared.key.LegKey.{LegKey}
use Rattle.agv_world_core.specs.declared.key.UseKey.{UseKey}
use Rattle.agv_world_core.specs.declared.key.UseKind.TheVariants as used
use Rattle.agv_world_core.specs.declared.row.JobRow.{JobRow}
use Rattle.agv_world_core.specs.declared.row.TripRow.{TripRow}
use Rattle.agv_world_core.specs.declared.row.VehicleRow.{VehicleRow}

-- the eleven maps
pub record Maps : Type 0 where
  pub meta : finite.FinMap nat_cmp ℕ
  pub nodes : set.FinSet name_cmp
  pub edges : finite.FinMap name_cmp EdgeEnds
  pub stations : finite.FinMap name_cmp StationSite
  pub vehicles : finite.FinMap key_cmp VehicleRow
  pub trips : finite.FinMap name_cmp TripRow
  pub legs : finite.FinMap leg_cmp (List ℕ)
  pub loads : finite.FinMap name_cmp Place
  pub jobs : finite.FinMap name_cmp JobRow
  pub holds : finite.FinMap thing_cmp VehicleKey
  pub used : set.FinSet use_cmp

-- ---- the rows that a vehicle gives to each map

-- the vehicle's own row
abbrev pub vehicle_rows : VehicleKey → Vehicle → List (VehicleKey × VehicleRow)
vehicle_rows key vehicle = (key, vehicle.row) ∷ []

-- the row of a trip
abbrev pub trip_row : VehicleKey → Trip → TripRow
trip_row key trip = record {
  vehicle = key;
  start = trip.start;
  first = trip.first;
  base = trip.base;
  sent = trip.sent;
  confirmed = trip.confirmed;
  seen = trip.seen;
  acts = trip.acts;
}

-- the row of the vehicle's open trip, if any
abbrev pub rows_of_trip : VehicleKey → Option Trip → List (List ℕ × TripRow)
rows_of_trip key None = []
rows_of_trip key (Some trip) = (trip.order, trip_row key trip) ∷ []

-- the row of the vehicle's open trip, if any
abbrev pub trip_rows : VehicleKey → Vehicle → List (List ℕ × TripRow)
trip_rows key vehicle = rows_of_trip key vehicle.trip

-- the row of edge k of a trip: the edge's name
abbrev pub leg_row : List ℕ → ℕ × Edge → LegKey × List ℕ
leg_row order numbered = (record { order = order; k = numbered.0 }, numbered.1.id)

-- the rows of the edges of the vehicle's open trip, if any
abbrev pub legs_of_trip : Option Trip → List (LegKey × List ℕ)
legs_of_trip None = []
legs_of_trip (Some trip) = map (leg_row trip.order) (enumerate_from 0 trip.edges)

-- the rows of the edges of the vehicle's open trip, if any
abbrev pub leg_rows : VehicleKey → Vehicle → List (LegKey × List ℕ)
leg_rows key vehicle = legs_of_trip vehicle.trip

-- where the vehicle stands: its node, its rest and its open trip
abbrev pub standing_of : Vehicle → Standing
standing_of vehicle = record { node = vehicle.row.node; rest = vehicle.row.rest; trip = vehicle.trip }

-- the row of each node and edge in the vehicle's footprint
abbrev pub hold_rows : VehicleKey → Vehicle → List (Thing × VehicleKey)
hold_rows key vehicle = map (λ thing. (thing, key)) (footprint_of (standing_of vehicle))

-- ---- all of them

-- the names that were used, each in its kind
abbrev pub used_names : World → List UseKey
used_names world =
    map (λ name. record { kind = used.Order; name = name }) (set.items world.orders)
    ++ map (λ name. record { kind = used.Reference; name = name }) (set.items world.references)

-- the maps of a world
abbrev pub maps_of : World → Maps
maps_of world = record {
  meta = finite.insert finite.empty 1 schema_number;
  nodes = world.layout.nodes;
  edges = world.layout.edges;
  stations = world.layout.stations;
  vehicles = spread key_cmp vehicle_rows world.vehicles;
  trips = spread name_cmp trip_rows world.vehicles;
  legs = spread leg_cmp leg_rows world.vehicles;
  loads = world.places;
  jobs = world.jobs;
  holds = spread thing_cmp hold_rows world.vehicles;
  used = set.from_list (used_names world);
}
