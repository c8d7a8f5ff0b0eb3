-- The world that the tables in memory determine, whatever they contain (this project's profile).
use Rattle.std.specs.Prelude.{ℕ, nat_eq, Bool, List, map, filter, filter_map, find, Option, None, Some, option_map}
use Rattle.std.specs.Cmp.Lexicographic.{pointwise}
use Rattle.std.specs.FinMap as finite
use Rattle.std.specs.FinSet as set
use Rattle.agv_header.specs.Key.{key_cmp}
use Rattle.agv_header.specs.KeyOrder.{key_eq}
use Rattle.agv_header.specs.Name.{name_cmp}
use Rattle.agv_header.specs.declared.key.Thing.{Thing}
use Rattle.agv_header.specs.declared.key.VehicleKey.{VehicleKey}
use Rattle.agv_layout.specs.Layout.{Layout, edge_of}
use Rattle.agv_layout.specs.declared.edge.Edge.{Edge}
use Rattle.agv_layout.specs.declared.edge.EdgeEnds.{EdgeEnds}
use Rattle.agv_order.specs.declared.trip.Trip.{Trip}
use Rattle.agv_track_holds.specs.Footprints.{footprint_of}
use Rattle.agv_track_holds.specs.Holds.{is_in}
use Rattle.agv_world_core.specs.Keys.{use_rank}
use Rattle.agv_world_core.specs.Maps.{standing_of}
use Rattle.agv_world_core.specs.Worlds.{Vehicle, World}
use Rattle.agv_world_core.specs.declared.key.LegKey.{LegKey}
use Rattle.agv_world_core.specs.declared.key.UseKey.{UseKey}
use Rattle.agv_world_core.specs.declared.key.UseKind.{UseKind}
use Rattle.agv_world_core.specs.declared.key.UseKind.TheVariants.{Order, Reference}
use Rattle.agv_world_core.specs.declared.row.TripRow.{TripRow}
use Rattle.agv_world_core.specs.declared.row.VehicleRow.{VehicleRow}
use Rattle.agv_world_core.specs.declared.world.World.{World as Tables}

-- ---- the layout

-- the layout in its three tables
abbrev pub layout_of_tables : Tables → Layout
layout_of_tables tables = record { nodes = tables.nodes; edges = tables.edges; stations = tables.stations }

-- ---- trips

-- the edge of this name, with its ends; none if the layout has no such edge
abbrev pub edge_named : finite.FinMap name_cmp EdgeEnds → List ℕ → Option Edge
edge_named edges id = option_map (edge_of id) (finite.get edges id)

-- the row is an edge of this order
abbrev pub is_of_order : List ℕ → LegKey × List ℕ → Bool
is_of_order order leg = pointwise nat_eq leg.0.order order

-- the edges of an order's rows, in the order of the way; an edge that the layout does not have is left out
unfoldable pub edges_of : Tables → List ℕ → List Edge
edges_of tables order =
    filter_map (λ (leg : LegKey × List ℕ). edge_named tables.edges leg.1) (filter (is_of_order order) (finite.entries tables.legs))

-- the trip of a row, with the edges of its order
abbrev pub trip_in : Tables → List ℕ × TripRow → Trip
trip_in tables entry = record {
  order = entry.0;
  vehicle = entry.1.vehicle;
  start = entry.1.start;
  edges = edges_of tables entry.0;
  first = entry.1.first;
  base = entry.1.base;
  sent = entry.1.sent;
  confirmed = entry.1.confirmed;
  seen = entry.1.seen;
  acts = entry.1.acts;
}

-- the row names this vehicle
abbrev pub names_vehicle : VehicleKey → List ℕ × TripRow → Bool
names_vehicle key entry = key_eq entry.1.vehicle key

-- the trip of the first row, in the order of orders, that names the vehicle
unfoldable pub open_trip : Tables → VehicleKey → Option Trip
open_trip tables key = option_map (trip_in tables) (find (names_vehicle key) (finite.entries tables.trips))

-- the order of a row, if there is one
abbrev pub order_in : Option (List ℕ × TripRow) → Option (List ℕ)
order_in None = None
order_in (Some entry) = Some entry.0

-- the order of the first row that names the vehicle
abbrev pub first_order : Tables → VehicleKey → Option (List ℕ)
first_order tables key = order_in (find (names_vehicle key) (finite.entries tables.trips))

-- ---- vehicles

-- a vehicle: its row and its open trip
abbrev pub vehicle_in : Tables → VehicleKey → VehicleRow → Vehicle
vehicle_in tables key row = record { row = row; trip = open_trip tables key }

-- each row of the vehicle table, with the vehicle's trip
abbrev pub vehicles_in : Tables → List (VehicleKey × VehicleRow) → List (VehicleKey × Vehicle)
vehicles_in tables entries = map (λ (entry : VehicleKey × VehicleRow). (entry.0, vehicle_in tables entry.0 entry.1)) entries

-- the vehicles, each with its open trip
unfoldable pub vehicles_of : Tables → finite.FinMap key_cmp Vehicle
vehicles_of tables = finite.from_entries (vehicles_in tables (finite.entries tables.vehicles))

-- the node or edge is in the footprint of the vehicle of this row
abbrev pub is_held_by : Tables → Thing → VehicleKey × VehicleRow → Bool
is_held_by tables thing entry = is_in thing (footprint_of (standing_of (vehicle_in tables entry.0 entry.1)))

-- ---- used names

-- the name was used in this kind
abbrev pub is_of_kind : UseKind → UseKey → Bool
is_of_kind kind key = nat_eq (use_rank key.kind) (use_rank kind)

-- the names of these keys that were used in this kind
abbrev pub names_in : UseKind → List UseKey → List (List ℕ)
names_in kind keys = map (λ (key : UseKey). key.name) (filter (is_of_kind kind) keys)

-- the names that were used in this kind
unfoldable pub names_of : Tables → UseKind → set.FinSet name_cmp
names_of tables kind = set.from_list (names_in kind (set.items tables.used))

-- ---- all of it

-- the world that the tables determine; with consistent trips it is the world whose tables they are (`laws`)
abbrev pub world_of : Tables → World
world_of tables = record {
  layout = layout_of_tables tables;
  vehicles = vehicles_of tables;
  places = tables.loads;
  jobs = tables.jobs;
  orders = names_of tables Order;
  references = names_of tables Reference;
}
