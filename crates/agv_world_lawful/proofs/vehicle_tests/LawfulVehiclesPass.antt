-- Tables of a world with lawful vehicles pass the tests of the layout, the vehicles and their trips.
use Rattle.std.proofs.Common.{◌≡◌, ℕ, ◌≤◌, true, List, [], ◌∷◌, Option, Some, is_some, refl, sym, ap, subst, ◌∙◌}
use Rattle.std.proofs.lemmas.Bool.{and_from, false≢true, le-leb, lt-ltb}
use Rattle.std.proofs.lemmas.List.Elements.{All-head, All-tail}
use Rattle.std.specs.FinMap as finite
use Rattle.std.specs.FinMap.{get}
use Rattle.std.specs.FinSet as set
use Rattle.std.specs.List.{All, AllByRecursion, filter}
use Rattle.std.specs.Prelude.{count_by}
use Rattle.agv_header.specs.KeyOrder.{key_cmp-total, key_cmp-IsAntisymmetric}
use Rattle.agv_header.specs.Name.{name_cmp}
use Rattle.agv_header.specs.declared.key.VehicleKey.{VehicleKey}
use Rattle.agv_layout.specs.Layout.{Layout}
use Rattle.agv_layout.specs.declared.edge.Edge.{Edge}
use Rattle.agv_order.specs.Trips.{node_at}
use Rattle.agv_order.specs.WellFormed.{IsEdgeOf, IsWellFormed}
use Rattle.agv_order.specs.declared.trip.Trip.{Trip}
use Rattle.agv_world_core.specs.ConsistentTrips.{HasTrip, HasConsistentTrips}
use Rattle.agv_world_core.specs.Kept.{Keeps}
use Rattle.agv_world_core.specs.KeyOrders.{leg_cmp-total, leg_cmp-IsAntisymmetric}
use Rattle.agv_world_core.specs.Keys.{leg_cmp}
use Rattle.agv_world_core.specs.Lawful.{picks}
use Rattle.agv_world_core.specs.LawfulParts.{HasLawfulVehicles, IsTripOf}
use Rattle.agv_world_lawful.specs.LawfulTests.{are_in_turn, are_lawful_vehicles, are_legs, are_trips, are_vehicles, has_trip_row, is_trip_of, is_trip_of_row, is_first, is_name_of, is_trip_row, is_used_order, is_vehicle_row}
use Rattle.agv_world_core.specs.Maps.{legs_of_trip}
use Rattle.agv_world_core.specs.Told.{is_of_order, layout_of_tables, names_of, trip_in, vehicle_in, world_of}
use Rattle.agv_world_core.specs.Worlds.{Vehicle, World, empty_layout}
use Rattle.agv_world_core.specs.declared.key.UseKind.TheVariants.{Order, Reference}
use Rattle.agv_world_core.specs.declared.row.TripRow.{TripRow}
use Rattle.agv_world_core.specs.declared.row.VehicleRow.{VehicleRow}
use Rattle.agv_world_core.specs.declared.world.World.{World as Tables}
use Rattle.agv_world_lawful.proofs.vehicle_tests.ApartTests.{apart_again}
use Rattle.agv_world_core.proofs.told_worlds.Counts.{len-vehicles_of}
use Rattle.agv_world_core.proofs.lists.EachEntry.{all-entries}
use Rattle.agv_world_core.proofs.told_worlds.EdgesTold.{rows_of_order}
use Rattle.agv_world_core.proofs.lists.Entries.{same_Some}
use Rattle.agv_world_lawful.proofs.vehicle_tests.FitTests.{Below, fit_again}
use Rattle.agv_world_lawful.proofs.vehicle_tests.KeepsTold.{leg_table, trip_table}
use Rattle.agv_world_lawful.proofs.vehicle_tests.KeptTests.{IsTold, once, trip_told, turns}
use Rattle.agv_world_lawful.proofs.vehicle_tests.LaidTests.{laid_again}
use Rattle.agv_world_core.proofs.lists.Orders.{names_total, names_apart}
use Rattle.agv_world_core.proofs.world_rows.RowKeys.{leg_of, numbered, trip_at}
use Rattle.agv_world_core.proofs.lists.SameNames.{is_nothing, is_there, name_same}
use Rattle.agv_world_core.proofs.told_worlds.Telling.{contains-names_of}
use Rattle.agv_world_core.proofs.told_worlds.ToldVehicles.{told_vehicle, vehicle_told}
use Rattle.agv_world_lawful.proofs.vehicle_tests.VehicleRowTests.{vehicle_row_again}
use Rattle.agv_world_core.proofs.told_worlds.WorldTold.{told_world}

-- ---- a world with lawful vehicles has consistent trips
each_edge : (layout : Layout) (edges : List Edge) → All (IsEdgeOf layout) edges → AllByRecursion (IsEdgeOf layout) edges
each_edge layout [] each = tt
each_edge layout (edge ∷ edges) each = (All-head (IsEdgeOf layout) edge edges each, each_edge layout edges (All-tail (IsEdgeOf layout) edge edges each))

pub trips_consistent : (seats : ℕ) (world : World) → HasLawfulVehicles seats world → HasConsistentTrips world
trips_consistent seats world lawful = record {
  one_trip = lawful.one_trip;
  own = λ key trip has. (lawful.trips key has.0 trip has.1 has.2).own;
  known = λ key trip has. each_edge world.layout trip.edges (lawful.trips key has.0 trip has.1 has.2).well_formed.planned.edges;
}

name_again : (o : Option (List ℕ)) (name : List ℕ) → o ≡ Some name → is_name_of o name ≡ true
name_again o name is = ap (λ other. is_name_of other name) is ∙ name_same name name refl

trip_of_again : (o : Option VehicleRow) (row : VehicleRow) (trip : Trip) → o ≡ Some row → is_trip_of_row row trip ≡ true → is_trip_of o trip ≡ true
trip_of_again o row trip is passes = ap (λ other. is_trip_of other trip) is ∙ passes

known_edges : (tables : Tables) (edges : List Edge) → AllByRecursion (IsEdgeOf (layout_of_tables tables)) edges → AllByRecursion (λ (edge : Edge). is_some (get tables.edges edge.id) ≡ true) edges
known_edges tables [] each = tt
known_edges tables (edge ∷ edges) each = (is_there (get tables.edges edge.id) _ each.0, known_edges tables edges each.1)

module _ (below : Below) (seats : ℕ) (tables : Tables) (keeps : Keeps tables (world_of tables)) (lawful : HasLawfulVehicles seats (world_of tables)) where
  -- ---- vehicles
  vehicles_pass : are_vehicles seats tables ≡ true
  vehicles_pass = all-entries key_cmp-total key_cmp-IsAntisymmetric (λ (entry : VehicleKey × VehicleRow). is_vehicle_row seats tables entry.1) tables.vehicles (λ key row at.
      vehicle_row_again tables seats row (lawful.vehicles key (vehicle_in tables key row) (told_vehicle tables key row at)))

  -- ---- the row of a trip
  pub record IsTripAt (order : List ℕ) (row : TripRow) : Type 0 where
    pub key : VehicleKey
    pub trip : Trip
    pub has : HasTrip (world_of tables) key trip
    pub order_is : order ≡ trip.order
    pub told : IsTold tables key trip
    pub row_is : told.row ≡ row

  trip_of_row : (order : List ℕ) (row : TripRow) → get tables.trips order ≡ Some row → IsTripAt order row
  trip_of_row order row at =
      let from = (trip_table tables).from order row (sym (ap (λ trips. get trips order) keeps.trips) ∙ at) in
      let trip = trip_at from.0 from.1.trip order row from.3 in
      let has : HasTrip (world_of tables) from.0 trip.0 = (from.1, from.2, trip.1) in
      let told = trip_told tables from.0 trip.0 has in
      record {
        key = from.0;
        trip = trip.0;
        has = has;
        order_is = trip.2;
        told = told;
        row_is = same_Some _ _ (sym told.here ∙ ap (get tables.trips) (sym trip.2) ∙ at);
      }

  trip_again : (order : List ℕ) (row : TripRow) → (is : IsTripAt order row) → trip_in tables (order, row) ≡ is.trip
  trip_again order row is = ap (λ o. trip_in tables (o, row)) is.order_is ∙ ap (λ r. trip_in tables (is.trip.order, r)) (sym is.row_is) ∙ is.told.is

  key_again : (order : List ℕ) (row : TripRow) → (is : IsTripAt order row) → row.vehicle ≡ is.key
  key_again order row is = ap (λ (r : TripRow). r.vehicle) (sym is.row_is) ∙ is.told.by

  -- ---- its edges
  rows_again : (key : VehicleKey) (trip : Trip) → HasTrip (world_of tables) key trip → filter (is_of_order trip.order) (finite.entries tables.legs) ≡ numbered trip.order 0 trip.edges
  rows_again key trip has =
      rows_of_order tables.legs trip.order trip.edges
      (λ q y order is.
      let row = (leg_table tables).from q y (sym (ap (λ legs. get legs q) keeps.legs) ∙ is) in
      let leg = leg_of row.1.trip q y row.3 in
      let owner : row.0 ≡ key = once tables row.0 key leg.0 trip (row.1, row.2, leg.1) has (sym leg.2 ∙ order) in
      let vehicle : row.1 ≡ has.0 = same_Some _ _ (sym row.2 ∙ ap (get (world_of tables).vehicles) owner ∙ has.1) in
      sym (ap (λ o. finite.find leg_cmp q (legs_of_trip o)) (ap (λ (x : Vehicle). x.trip) vehicle ∙ has.2)) ∙ row.3)
      (λ q y is.
      ap (λ legs. get legs q) keeps.legs
      ∙ (leg_table tables).into key has.0 q y has.1 (ap (λ o. finite.find leg_cmp q (legs_of_trip o)) has.2 ∙ is))

  turn_again : (key : VehicleKey) (trip : Trip) → HasTrip (world_of tables) key trip → are_in_turn tables trip.order 0 (finite.entries tables.legs) ≡ true
  turn_again key trip has =
      turns tables trip.order 0 trip.edges (known_edges tables trip.edges ((trips_consistent seats (world_of tables) lawful).known key trip has)) (finite.entries tables.legs) (rows_again key trip has)

  -- ---- trips
  trip_passes : (key : VehicleKey) (vehicle : Vehicle) (trip : Trip) → IsTripOf (layout_of_tables tables) key vehicle.row trip → is_trip_of_row vehicle.row trip ≡ true
  trip_passes key vehicle trip is =
      and_from _ _ (le-leb (count_by picks trip.acts) vehicle.row.capacity is.picks_fit)
      (and_from _ _ (lt-ltb 0 vehicle.row.orders.count is.sent)
      (and_from _ _ (name_again (node_at trip trip.seen) vehicle.row.node is.stands) (is_nothing vehicle.row.rest is.no_rest)))

  row_passes : (order : List ℕ) (row : TripRow) → get tables.trips order ≡ Some row → is_trip_row tables (order, row) ≡ true
  row_passes order row at =
      let is = trip_of_row order row at in
      let by = key_again order row is in
      let vehicle = vehicle_told tables is.key is.has.0 is.has.1 in
      let owner : get tables.vehicles row.vehicle ≡ Some is.has.0.row = ap (get tables.vehicles) by ∙ vehicle.1 ∙ ap (λ (v : Vehicle). Some v.row) vehicle.2 in
      let of_row = trip_passes is.key is.has.0 is.trip (lawful.trips is.key is.has.0 is.trip is.has.1 is.has.2) in
      let first : is_first tables row.vehicle order ≡ true = subst (λ k. is_first tables k order ≡ true) (sym by) (subst (λ o. is_first tables is.key o ≡ true) (sym is.order_is) is.told.first) in
      let used : is_used_order tables order ≡ true = ap (λ o. is_used_order tables o) is.order_is ∙ sym (contains-names_of tables Order is.trip.order) ∙ lawful.used is.key is.trip is.has in
      let turn : are_in_turn tables order 0 (finite.entries tables.legs) ≡ true = ap (λ o. are_in_turn tables o 0 (finite.entries tables.legs)) is.order_is ∙ turn_again is.key is.trip is.has in
      and_from _ _ first
      (and_from _ _ used
      (and_from _ _ turn
      (trip_of_again (get tables.vehicles row.vehicle) is.has.0.row (trip_in tables (order, row)) owner (ap (is_trip_of_row is.has.0.row) (trip_again order row is) ∙ of_row))))

  trips_pass : are_trips tables ≡ true
  trips_pass = all-entries names_total names_apart (is_trip_row tables) tables.trips row_passes

  legs_pass : are_legs tables ≡ true
  legs_pass = all-entries leg_cmp-total leg_cmp-IsAntisymmetric (has_trip_row tables) tables.legs (λ q id at.
      let from = (leg_table tables).from q id (sym (ap (λ legs. get legs q) keeps.legs) ∙ at) in
      let trip = leg_of from.1.trip q id from.3 in
      let told = trip_told tables from.0 trip.0 (from.1, from.2, trip.1) in
      is_there (get tables.trips q.order) told.row (ap (get tables.trips) trip.2 ∙ told.here))

  -- ---- well-formed trips
  fit_row : (order : List ℕ) (row : TripRow) → get tables.trips order ≡ Some row → IsWellFormed (layout_of_tables tables) (trip_in tables (order, row))
  fit_row order row at =
      let is = trip_of_row order row at in
      subst (λ (t : Trip). IsWellFormed (layout_of_tables tables) t) (sym (trip_again order row is)) (lawful.trips is.key is.has.0 is.trip is.has.1 is.has.2).well_formed

  no_trip : layout_of_tables tables ≡ empty_layout → (order : List ℕ) (row : TripRow) → get tables.trips order ≡ Some row → ⊥
  no_trip none order row at =
      let is = trip_of_row order row at in
      let node = (lawful.vehicles is.key is.has.0 is.has.1).node in
      false≢true (sym (ap (λ (l : Layout). set.contains l.nodes is.has.0.row.node) none ∙ set.contains-empty name_cmp is.has.0.row.node) ∙ node)

  -- ---- all of them
  pub vehicles_again : are_lawful_vehicles seats tables ≡ true
  vehicles_again =
      and_from _ _ (laid_again tables lawful.laid)
      (and_from _ _
      (and_from _ _ (le-leb (finite.len tables.vehicles) 100 (subst (λ n. n ≤ 100) (len-vehicles_of tables) lawful.few_vehicles))
      (and_from _ _ (le-leb (set.len (names_of tables Order)) 1000000 lawful.few_orders) (le-leb (set.len (names_of tables Reference)) 1000000 lawful.few_references)))
      (and_from _ _ vehicles_pass
      (and_from _ _ legs_pass
      (and_from _ _ trips_pass
      (and_from _ _ (fit_again below tables lawful.laid fit_row no_trip) (apart_again tables lawful.apart))))))

-- the tables of any world with lawful vehicles tell that world
pub told_again : (seats : ℕ) (tables : Tables) (world : World) → Keeps tables world → HasLawfulVehicles seats world → world_of tables ≡ world
told_again seats tables world keeps lawful = told_world tables world keeps (trips_consistent seats world lawful)
