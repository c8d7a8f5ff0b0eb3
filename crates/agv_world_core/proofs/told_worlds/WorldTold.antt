-- The tables of a world with consistent trips tell that world.
use Rattle.std.proofs.Common.{◌≡◌, Bool, true, false, cond, ℕ, List, [], ◌∷◌, Option, Some, None, option_map, refl, sym, ap, subst, ◌∙◌}
use Rattle.std.specs.Cmp.{tied_itself}
use Rattle.std.specs.FinMap as finite
use Rattle.std.specs.FinMap.{get}
use Rattle.std.specs.FinSet as set
use Rattle.std.specs.List.{AllByRecursion, filter, filter_map, find}
use Rattle.std.specs.Ordering.{eq_by_cmp, is_eq}
use Rattle.agv_header.specs.KeyOrder.{key_cmp-total, key_cmp-IsAntisymmetric, key_cmp-ties, key_eq}
use Rattle.agv_header.specs.Name.{name_cmp}
use Rattle.agv_header.specs.declared.key.VehicleKey.{VehicleKey}
use Rattle.agv_layout.specs.declared.edge.EdgeEnds.{EdgeEnds}
use Rattle.agv_order.specs.declared.trip.Trip.{Trip}
use Rattle.agv_world_core.specs.ConsistentTrips.{HasConsistentTrips, HasTrip}
use Rattle.agv_world_core.specs.Kept.{Keeps}
use Rattle.agv_world_core.specs.Keys.{leg_cmp}
use Rattle.agv_world_core.specs.Maps.{legs_of_trip, rows_of_trip, trip_row}
use Rattle.agv_world_core.specs.Told.{edge_named, edges_of, is_of_order, names_of, names_vehicle, open_trip, trip_in, vehicle_in, vehicles_of, world_of}
use Rattle.agv_world_core.specs.Worlds.{Vehicle, World}
use Rattle.agv_world_core.specs.declared.key.LegKey.{LegKey}
use Rattle.agv_world_core.specs.declared.key.UseKind.TheVariants.{Order, Reference}
use Rattle.agv_world_core.specs.declared.row.TripRow.{TripRow}
use Rattle.agv_world_core.specs.declared.row.VehicleRow.{VehicleRow}
use Rattle.agv_world_core.specs.declared.world.World.{World as Tables}
use Rattle.agv_world_core.proofs.told_worlds.EdgesTold.{all_named, rows_of_order}
use Rattle.agv_world_core.proofs.lists.Entries.{entries_found, is_same, no_more, same_Some}
use Rattle.agv_world_core.proofs.lists.Orders.{names_total, names_apart}
use Rattle.agv_world_core.proofs.world_rows.RowKeys.{leg_of, numbered, one_key, own_key, trip_at}
use Rattle.agv_world_core.proofs.told_worlds.Telling.{contains-names_of, get-vehicles_of}
use Rattle.agv_world_core.proofs.lists.Entries.{alike}
use Rattle.agv_world_core.proofs.world_rows.Unique.{legs_of, trips_of, vehicles_of as vehicle_table}
use Rattle.agv_world_core.proofs.world_rows.UsedKeys.{order_key, reference_key, used_order, used_reference}

-- ---- the first entry that passes a test
abbrev Entry : Type 0
Entry = List ℕ × TripRow

-- it passes, and has what all have
passes : (P : Entry → Type 0) (test : Entry → Bool) (e : Entry) (es : List Entry) → AllByRecursion P es → find test es ≡ Some e → P e × (test e ≡ true)
passes P test e [] each is = absurd (no_more e is)
passes P test e (x ∷ es) each is =
    elim (test x) as (λ b. test x ≡ b → cond b (Some x) (find test es) ≡ Some e → P e × (test e ≡ true)) [
      | true ↦ λ t found. let same = same_Some x e found in (subst P same each.0, ap test (sym same) ∙ t)
      | false ↦ λ t found. passes P test e es each.1 found
    ] refl is

-- there is one where a look-up finds one
not_missed : (test : TripRow → Bool) (q : List ℕ) (row : TripRow) → test row ≡ true → (es : List Entry) → finite.find name_cmp q es ≡ Some row → find (λ (e : Entry). test e.1) es ≡ None → ⊥
not_missed test q row t [] is none = no_more row is
not_missed test q row t (x ∷ es) is none =
    elim (eq_by_cmp name_cmp q x.0) as (λ b. cond b (Some x.1) (finite.find name_cmp q es) ≡ Some row → ⊥) [
      | true ↦ λ found. no_more x (sym none ∙ ap (λ b. cond b (Some x) (find (λ (e : Entry). test e.1) es)) (ap test (same_Some x.1 row found) ∙ t))
      | false ↦ λ found. not_missed test q row t es found (rest_none (test x.1) (find (λ (e : Entry). test e.1) es) none)
    ] is
  where
    rest_none : (b : Bool) (rest : Option Entry) → cond b (Some x) rest ≡ None → rest ≡ None
    rest_none true rest e = absurd (no_more x (sym e))
    rest_none false rest e = e

own_vehicle : (key : VehicleKey) → key_eq key key ≡ true
own_vehicle key = key_cmp-ties key key ∙ ap is_eq (tied_itself key_cmp-total key)

-- ---- trips
module _ (tables : Tables) (world : World) (keeps : Keeps tables world) (good : HasConsistentTrips world) where
  -- the vehicle's trip has the rows of its order
  edges_again : (key : VehicleKey) (trip : Trip) → HasTrip world key trip → edges_of tables trip.order ≡ trip.edges
  unfolding edges_of
  edges_again key trip has =
      let from : (q : LegKey) (y : List ℕ) → q.order ≡ trip.order → get tables.legs q ≡ Some y → finite.find leg_cmp q (numbered trip.order 0 trip.edges) ≡ Some y =
      λ q y order is.
      let row = (legs_of world good).from q y (sym (ap (λ legs. get legs q) keeps.legs) ∙ is) in
      let leg = leg_of row.1.trip q y row.3 in
      let owner : row.0 ≡ key = good.one_trip row.0 key leg.0 trip (row.1, row.2, leg.1) has (sym leg.2 ∙ order) in
      let vehicle : row.1 ≡ has.0 = same_Some _ _ (sym row.2 ∙ ap (get world.vehicles) owner ∙ has.1) in
      sym (ap (λ o. finite.find leg_cmp q (legs_of_trip o)) (ap (λ (x : Vehicle). x.trip) vehicle ∙ has.2)) ∙ row.3 in
      let into : (q : LegKey) (y : List ℕ) → finite.find leg_cmp q (numbered trip.order 0 trip.edges) ≡ Some y → get tables.legs q ≡ Some y =
      λ q y is.
      ap (λ legs. get legs q) keeps.legs
      ∙ (legs_of world good).into key has.0 q y has.1 (ap (λ o. finite.find leg_cmp q (legs_of_trip o)) has.2 ∙ is) in
      ap (λ (edges : finite.FinMap name_cmp EdgeEnds). filter_map (λ (leg : LegKey × List ℕ). edge_named edges leg.1) (filter (is_of_order trip.order) (finite.entries tables.legs))) keeps.edges
      ∙ ap (filter_map (λ (leg : LegKey × List ℕ). edge_named world.layout.edges leg.1)) (rows_of_order tables.legs trip.order trip.edges from into)
      ∙ all_named world.layout trip.order 0 trip.edges (good.known key trip has)

  trip_again : (key : VehicleKey) (trip : Trip) → HasTrip world key trip → trip_in tables (trip.order, trip_row key trip) ≡ trip
  trip_again key trip has =
      let own : key ≡ trip.vehicle = sym (good.own key trip has) in
      let edges = edges_again key trip has in
      λ i. record {
        order = trip.order;
        vehicle = own i;
        start = trip.start;
        edges = edges i;
        first = trip.first;
        base = trip.base;
        sent = trip.sent;
        confirmed = trip.confirmed;
        seen = trip.seen;
        acts = trip.acts;
      }

  -- a row that names the vehicle is that of its trip
  row_is : (key : VehicleKey) (vehicle : Vehicle) → get world.vehicles key ≡ Some vehicle → (e : Entry) → find (names_vehicle key) (finite.entries tables.trips) ≡ Some e
      → (trip : Trip) × (vehicle.trip ≡ Some trip) × (e ≡ (trip.order, trip_row key trip))
  row_is key vehicle at e found =
      let entry = passes (λ (x : Entry). get tables.trips x.0 ≡ Some x.1) (names_vehicle key) e (finite.entries tables.trips) (entries_found names_total tables.trips) found in
      let row = (trips_of world good).from e.0 e.1 (sym (ap (λ trips. get trips e.0) keeps.trips) ∙ entry.0) in
      let trip = trip_at row.0 row.1.trip e.0 e.1 row.3 in
      let named : e.1.vehicle ≡ key = is_same key_cmp-IsAntisymmetric e.1.vehicle key (sym (key_cmp-ties e.1.vehicle key) ∙ entry.1) in
      let owner : row.0 ≡ key = sym (ap (λ (r : TripRow). r.vehicle) trip.3) ∙ named in
      let same : row.1 ≡ vehicle = same_Some _ _ (sym row.2 ∙ ap (get world.vehicles) owner ∙ at) in
      (trip.0, ap (λ (x : Vehicle). x.trip) (sym same) ∙ trip.1, λ i. (trip.2 i, (trip.3 ∙ ap (λ k. trip_row k trip.0) owner) i))

  open_again : (key : VehicleKey) (vehicle : Vehicle) → get world.vehicles key ≡ Some vehicle → open_trip tables key ≡ vehicle.trip
  unfolding open_trip
  open_again key vehicle at =
      elim (find (names_vehicle key) (finite.entries tables.trips)) as (λ o. find (names_vehicle key) (finite.entries tables.trips) ≡ o → option_map (trip_in tables) o ≡ vehicle.trip) [
        | Some e ↦ λ found.
            let row = row_is key vehicle at e found in
            ap (λ x. Some (trip_in tables x)) row.2 ∙ ap Some (trip_again key row.0 (vehicle, at, row.1)) ∙ sym row.1
        | None ↦ λ none. none_open none vehicle.trip refl
      ] refl
    where
      none_open : find (names_vehicle key) (finite.entries tables.trips) ≡ None → (o : Option Trip) → vehicle.trip ≡ o → None ≡ vehicle.trip
      none_open none None is = sym is
      none_open none (Some trip) is =
          let row : get tables.trips trip.order ≡ Some (trip_row key trip) =
          ap (λ trips. get trips trip.order) keeps.trips
          ∙ (trips_of world good).into key vehicle trip.order (trip_row key trip) at (ap (λ o. finite.find name_cmp trip.order (rows_of_trip key o)) is ∙ own_key names_total trip.order (trip_row key trip)) in
          absurd (not_missed (λ (r : TripRow). key_eq r.vehicle key) trip.order (trip_row key trip) (own_vehicle key) (finite.entries tables.trips) (sym (finite.get-entries tables.trips trip.order) ∙ row) none)

  -- ---- vehicles
  vehicle_again : (key : VehicleKey) → get (vehicles_of tables) key ≡ get world.vehicles key
  vehicle_again key =
      get-vehicles_of tables key
      ∙ elim (get world.vehicles key) as (λ o. get world.vehicles key ≡ o → option_map (vehicle_in tables key) (get tables.vehicles key) ≡ o) [
        | Some vehicle ↦ λ at.
            let row : get tables.vehicles key ≡ Some vehicle.row =
            ap (λ vehicles. get vehicles key) keeps.vehicles ∙ (vehicle_table world).into key vehicle key vehicle.row at (own_key key_cmp-total key vehicle.row) in
            let trip = open_again key vehicle at in
            ap (option_map (vehicle_in tables key)) row ∙ (λ i. Some (record { row = vehicle.row; trip = trip i }))
        | None ↦ λ none.
            ap (option_map (vehicle_in tables key)) (alike (get tables.vehicles key) None (λ row is. no_row none row is) (λ row is. absurd (no_more row is)))
      ] refl
    where
      no_row : get world.vehicles key ≡ None → (row : VehicleRow) → get tables.vehicles key ≡ Some row → None ≡ Some row
      no_row none row is =
          let from = (vehicle_table world).from key row (sym (ap (λ vehicles. get vehicles key) keeps.vehicles) ∙ is) in
          let one = one_key key_cmp-IsAntisymmetric key from.0 from.1.row row from.3 in
          absurd (no_more from.1 (sym none ∙ ap (get world.vehicles) one.0 ∙ from.2))

-- ---- worlds
pub told_world : (tables : Tables) (world : World) → Keeps tables world → HasConsistentTrips world → world_of tables ≡ world
told_world tables world keeps good =
    let vehicles : vehicles_of tables ≡ world.vehicles = finite.same_map key_cmp-total key_cmp-IsAntisymmetric _ _ (vehicle_again tables world keeps good) in
    let orders : names_of tables Order ≡ world.orders = set.same_set names_total names_apart _ _ (λ name. contains-names_of tables Order name ∙ ap (λ used. set.contains used (order_key name)) keeps.used ∙ used_order world name) in
    let references : names_of tables Reference ≡ world.references = set.same_set names_total names_apart _ _ (λ name. contains-names_of tables Reference name ∙ ap (λ used. set.contains used (reference_key name)) keeps.used ∙ used_reference world name) in
    λ i. record {
      layout = record { nodes = keeps.nodes i; edges = keeps.edges i; stations = keeps.stations i };
      vehicles = vehicles i;
      places = keeps.loads i;
      jobs = keeps.jobs i;
      orders = orders i;
      references = references i;
    }
