-- Derived, not the promise: tests of the tables in memory, by look-ups. All of them pass if and only if the tables are those of a lawful world (`IsLawful`) of `Lawful.antt` of agv_world_core (`is_lawful`).
use Rattle.std.specs.Prelude.{ℕ, ◌+◌, ◌&&◌, ◌||◌, not, nat_eq, nat_le, nat_lt, Bool, true, false, List, [], ◌∷◌, count_by, Option, None, Some, if◌then◌else◌}
use Rattle.std.specs.Cmp.Lexicographic.{pointwise}
use Rattle.std.specs.FinMap as finite
use Rattle.std.specs.FinSet as set
use Rattle.std.specs.List.{list_all}
use Rattle.std.specs.Option.{is_none, is_some}
use Rattle.agv_header.specs.Limits.{most_records, most_vehicles}
use Rattle.agv_header.specs.declared.key.Thing.{Thing}
use Rattle.agv_header.specs.declared.key.VehicleKey.{VehicleKey}
use Rattle.agv_layout.specs.Layout.{Layout}
use Rattle.agv_layout.specs.declared.edge.EdgeEnds.{EdgeEnds}
use Rattle.agv_layout.specs.declared.station.StationSite.{StationSite}
use Rattle.agv_order.specs.Trips.{node_at}
use Rattle.agv_order.specs.WellFormedTest.{is_well_formed}
use Rattle.agv_order.specs.declared.trip.Trip.{Trip}
use Rattle.agv_track_holds.specs.Footprints.{footprint_of}
use Rattle.agv_track_holds.specs.Holds.{Holds, claimed, first_held}
use Rattle.agv_world_core.specs.Lawful.{picks}
use Rattle.agv_world_core.specs.Questions.{layout_set}
use Rattle.agv_world_core.specs.Maps.{standing_of}
use Rattle.agv_world_core.specs.Told.{first_order, is_of_order, names_of, trip_in, vehicle_in, world_of}
use Rattle.agv_world_core.specs.declared.key.LegKey.{LegKey}
use Rattle.agv_world_core.specs.declared.key.UseKind.TheVariants as used
use Rattle.agv_world_core.specs.declared.row.Sent.{Sent}
use Rattle.agv_world_core.specs.declared.row.TripRow.{TripRow}
use Rattle.agv_world_core.specs.declared.row.VehicleRow.{VehicleRow}
use Rattle.agv_world_core.specs.declared.world.World.{World as Tables}

-- ---- the layout

-- the edge leads from a node to another node
abbrev pub does_lead : Tables → EdgeEnds → Bool
does_lead tables ends = set.contains tables.nodes ends.start && (set.contains tables.nodes ends.finish && not (pointwise nat_eq ends.start ends.finish))

-- the station is at a node, and has room for 1 to 999 loads
abbrev pub does_stand : Tables → StationSite → Bool
does_stand tables site = set.contains tables.nodes site.node && (nat_le 1 site.capacity && nat_le site.capacity 999)

-- there are 1 to 500 nodes, and at most 1,500 edges and 500 stations
abbrev pub is_in_limits : Tables → Bool
is_in_limits tables =
    nat_le 1 (set.len tables.nodes)
    && (nat_le (set.len tables.nodes) 500
    && (nat_le (finite.len tables.edges) 1500
    && nat_le (finite.len tables.stations) 500))

-- the layout is not set
abbrev pub is_unset : Tables → Bool
is_unset tables = nat_eq (set.len tables.nodes) 0 && (nat_eq (finite.len tables.edges) 0 && nat_eq (finite.len tables.stations) 0)

-- each edge leads from a node to another node
abbrev pub all_lead : Tables → Bool
all_lead tables = list_all (λ (edge : List ℕ × EdgeEnds). does_lead tables edge.1) (finite.entries tables.edges)

-- each station is at a node, and has room for 1 to 999 loads
abbrev pub all_stand : Tables → Bool
all_stand tables = list_all (λ (station : List ℕ × StationSite). does_stand tables station.1) (finite.entries tables.stations)

-- the layout is not set, or follows the rules of a layout
abbrev pub is_laid : Tables → Bool
is_laid tables = is_unset tables || (is_in_limits tables && (all_lead tables && all_stand tables))

-- ---- vehicles

-- at most 100 vehicles, 1,000,000 orders and 1,000,000 references
abbrev pub are_few : Tables → Bool
are_few tables =
    nat_le (finite.len tables.vehicles) most_vehicles
    && (nat_le (set.len (names_of tables used.Order)) most_records
    && nat_le (set.len (names_of tables used.Reference)) most_records)

-- the moment is 0 if no message was sent
abbrev pub is_counted : Sent → Bool
is_counted sent = not (nat_eq sent.count 0) || nat_eq sent.at 0

-- the edge is known, and leads from this node to that one
abbrev pub leads_so : Option EdgeEnds → List ℕ → List ℕ → Bool
leads_so None start finish = false
leads_so (Some ends) start finish = pointwise nat_eq ends.start start && pointwise nat_eq ends.finish finish

-- the rest, if there is one, is an edge from the vehicle's node to the rest's node
abbrev pub is_rest : Tables → List ℕ → Option (List ℕ × List ℕ) → Bool
is_rest tables node None = true
is_rest tables node (Some rest) = leads_so (finite.get tables.edges rest.0) node rest.1

-- the capacity is from 1 to `seats`
abbrev pub is_seated : ℕ → VehicleRow → Bool
is_seated seats row = nat_le 1 row.capacity && nat_le row.capacity seats

-- the counters of both topics are valid, and an instant action is pending only if one was sent
abbrev pub is_numbered : VehicleRow → Bool
is_numbered row = is_counted row.orders && (is_counted row.instants && (is_none row.pending || nat_lt 0 row.instants.count))

-- the row of a vehicle follows the rules, by itself
abbrev pub is_vehicle_row : ℕ → Tables → VehicleRow → Bool
is_vehicle_row seats tables row = is_seated seats row && (set.contains tables.nodes row.node && (is_rest tables row.node row.rest && is_numbered row))

-- each row of a vehicle follows the rules
abbrev pub are_vehicles : ℕ → Tables → Bool
are_vehicles seats tables = list_all (λ (entry : VehicleKey × VehicleRow). is_vehicle_row seats tables entry.1) (finite.entries tables.vehicles)

-- ---- trips and their edges

-- there is a name, and it is this one
abbrev pub is_name_of : Option (List ℕ) → List ℕ → Bool
is_name_of None name = false
is_name_of (Some other) name = pointwise nat_eq other name

-- the vehicle's row agrees with the trip: the capacity is at least the number of picks, an order was sent, and the vehicle is at the last node that was seen, without a rest
abbrev pub is_trip_of_row : VehicleRow → Trip → Bool
is_trip_of_row row trip =
    nat_le (count_by picks trip.acts) row.capacity
    && (nat_lt 0 row.orders.count
    && (is_name_of (node_at trip trip.seen) row.node
    && is_none row.rest))

-- the vehicle is known, and its row agrees with the trip
abbrev pub is_trip_of : Option VehicleRow → Trip → Bool
is_trip_of None trip = false
is_trip_of (Some row) trip = is_trip_of_row row trip

-- the first row that names the vehicle is the row of this order
abbrev pub is_first : Tables → VehicleKey → List ℕ → Bool
is_first tables key order = is_name_of (first_order tables key) order

-- the edge rows of the order are numbered from `k`, and each names an edge of the layout
abbrev pub are_in_turn : Tables → List ℕ → ℕ → List (LegKey × List ℕ) → Bool
are_in_turn tables order k [] = true
are_in_turn tables order k (leg ∷ legs) =
    if is_of_order order leg
    then nat_eq leg.0.k k && (is_some (finite.get tables.edges leg.1) && are_in_turn tables order (k + 1) legs)
    else are_in_turn tables order k legs

-- the name was used for an order
abbrev pub is_used_order : Tables → List ℕ → Bool
is_used_order tables order = set.contains tables.used (record { kind = used.Order; name = order })

-- the row of a trip follows the rules: it is the first that names its vehicle, its order was used, its edges are numbered from 0, and the vehicle's row agrees with it
abbrev pub is_trip_row : Tables → List ℕ × TripRow → Bool
is_trip_row tables entry =
    is_first tables entry.1.vehicle entry.0
    && (is_used_order tables entry.0
    && (are_in_turn tables entry.0 0 (finite.entries tables.legs)
    && is_trip_of (finite.get tables.vehicles entry.1.vehicle) (trip_in tables entry)))

-- each row of a trip follows the rules
abbrev pub are_trips : Tables → Bool
are_trips tables = list_all (is_trip_row tables) (finite.entries tables.trips)

-- the trip of a row is well formed on the layout
abbrev pub is_fit : Tables → Layout → List ℕ × TripRow → Bool
is_fit tables layout entry = is_well_formed layout (trip_in tables entry)

-- each trip is well formed on the layout; without a layout there is no trip
abbrev pub are_fit_on : Tables → Option Layout → Bool
are_fit_on tables None = nat_eq (finite.len tables.trips) 0
are_fit_on tables (Some layout) = list_all (is_fit tables layout) (finite.entries tables.trips)

-- each trip is well formed on the layout of the tables; without a layout there is no trip
abbrev pub are_fit : Tables → Bool
are_fit tables = are_fit_on tables (layout_set (world_of tables))

-- the order of an edge row has an open trip
abbrev pub has_trip_row : Tables → LegKey × List ℕ → Bool
has_trip_row tables leg = is_some (finite.get tables.trips leg.0.order)

-- the order of each edge row has an open trip
abbrev pub are_legs : Tables → Bool
are_legs tables = list_all (has_trip_row tables) (finite.entries tables.legs)

-- ---- footprints

-- the footprint of the vehicle of a row
abbrev pub things_of : Tables → VehicleKey × VehicleRow → List Thing
things_of tables entry = footprint_of (standing_of (vehicle_in tables entry.0 entry.1))

-- the vehicles can claim their footprints one after the other
abbrev pub can_claim : Tables → Holds → List (VehicleKey × VehicleRow) → Bool
can_claim tables holds [] = true
can_claim tables holds (entry ∷ entries) =
    is_none (first_held holds entry.0 (things_of tables entry))
    && can_claim tables (claimed holds entry.0 (things_of tables entry)) entries

-- no node or edge is in two footprints: the vehicles can claim theirs one after the other
abbrev pub are_apart : Tables → Bool
are_apart tables = can_claim tables finite.empty (finite.entries tables.vehicles)

-- ---- the layout, the vehicles and their trips

-- all of the tests above
abbrev pub are_lawful_vehicles : ℕ → Tables → Bool
are_lawful_vehicles seats tables =
    is_laid tables
    && (are_few tables
    && (are_vehicles seats tables
    && (are_legs tables
    && (are_trips tables
    && (are_fit tables
    && are_apart tables)))))
