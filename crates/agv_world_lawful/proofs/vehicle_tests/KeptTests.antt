-- The trips and the edge rows of tables that pass their tests are those of the world that the tables tell.
use Rattle.std.proofs.Common.{◌≡◌, ℕ, ◌+◌, ◌&&◌, nat_eq, Bool, true, false, cond, List, [], ◌∷◌, Option, Some, None, option_map, is_some, refl, sym, ap, subst, ◌∙◌}
use Rattle.std.proofs.lemmas.Bool.{and_parts, and_from, false≢true, eqb-true, eq-eqb}
use Rattle.std.specs.Cmp.Lexicographic.{pointwise}
use Rattle.std.specs.FinMap as finite
use Rattle.std.specs.FinMap.{get, get-entries}
use Rattle.std.specs.FinMap.Entries.{find-where_key}
use Rattle.std.specs.List.{AllByRecursion, cons_option, filter, filter_map, find}
use Rattle.agv_header.specs.declared.key.VehicleKey.{VehicleKey}
use Rattle.agv_layout.specs.Layout.{edge_of}
use Rattle.agv_layout.specs.declared.edge.Edge.{Edge}
use Rattle.agv_order.specs.declared.trip.Trip.{Trip}
use Rattle.agv_world_core.specs.ConsistentTrips.{HasOneTripAnOrder, HasTrip}
use Rattle.agv_world_core.specs.KeyOrders.{leg_cmp-IsAntisymmetric}
use Rattle.agv_world_core.specs.Keys.{leg_cmp}
use Rattle.agv_world_lawful.specs.LawfulTests.{are_in_turn, is_first, is_name_of}
use Rattle.agv_world_core.specs.Told.{edge_named, edges_of, is_of_order, names_vehicle, open_trip, order_in, trip_in, world_of}
use Rattle.agv_world_core.specs.Worlds.{Vehicle}
use Rattle.agv_world_core.specs.declared.key.LegKey.{LegKey}
use Rattle.agv_world_core.specs.declared.row.TripRow.{TripRow}
use Rattle.agv_world_core.specs.declared.world.World.{World as Tables}
use Rattle.agv_world_core.proofs.lists.Entries.{entries_found, no_more, same_Some}
use Rattle.agv_world_core.proofs.lists.Orders.{names_total}
use Rattle.agv_world_core.proofs.world_rows.RowKeys.{numbered}
use Rattle.agv_world_core.proofs.lists.SameNames.{name_same, same_key, same_name, there}
use Rattle.agv_world_core.proofs.told_worlds.ToldVehicles.{vehicle_told}

abbrev Entry : Type 0
Entry = List ℕ × TripRow

-- what is found passes, and has what all have
passes : (P : Entry → Type 0) (test : Entry → Bool) (e : Entry) (es : List Entry) → AllByRecursion P es → find test es ≡ Some e → P e × (test e ≡ true)
passes P test e [] each is = absurd (no_more e is)
passes P test e (x ∷ es) each is =
    elim (test x) as (λ b. test x ≡ b → cond b (Some x) (find test es) ≡ Some e → P e × (test e ≡ true)) [
      | true ↦ λ t found. let same = same_Some x e found in (subst P same each.0, ap test (sym same) ∙ t)
      | false ↦ λ t found. passes P test e es each.1 found
    ] refl is

from_entry : (tables : Tables) (o : Option Entry) (trip : Trip) → option_map (trip_in tables) o ≡ Some trip → (e : Entry) × (o ≡ Some e) × (trip_in tables e ≡ trip)
from_entry tables None trip is = absurd (no_more trip is)
from_entry tables (Some e) trip is = (e, refl, same_Some _ _ is)

named_so : (o : Option Entry) (order : List ℕ) → is_name_of (order_in o) order ≡ true → (e : Entry) × (o ≡ Some e) × (e.0 ≡ order)
named_so None order is = absurd (false≢true is)
named_so (Some e) order is = (e, refl, same_name e.0 order is)

-- a trip is that of the row of its order, which names its vehicle
pub record IsTold (tables : Tables) (key : VehicleKey) (trip : Trip) : Type 0 where
  pub row : TripRow
  pub here : get tables.trips trip.order ≡ Some row
  pub by : row.vehicle ≡ key
  pub is : trip_in tables (trip.order, row) ≡ trip
  pub first : is_first tables key trip.order ≡ true

module _ (tables : Tables) where
  -- ---- trips
  found_row : (key : VehicleKey) (e : Entry) → find (names_vehicle key) (finite.entries tables.trips) ≡ Some e → (get tables.trips e.0 ≡ Some e.1) × (e.1.vehicle ≡ key)
  found_row key e found =
      let told = passes (λ (x : Entry). get tables.trips x.0 ≡ Some x.1) (names_vehicle key) e (finite.entries tables.trips) (entries_found names_total tables.trips) found in
      (told.0, same_key e.1.vehicle key told.1)

  pub open_told : (key : VehicleKey) (trip : Trip) → open_trip tables key ≡ Some trip → IsTold tables key trip
  unfolding open_trip
  open_told key trip is =
      let found = from_entry tables (find (names_vehicle key) (finite.entries tables.trips)) trip is in
      let e = found.0 in
      let row = found_row key e found.1 in
      let order : e.0 ≡ trip.order = ap (λ (t : Trip). t.order) found.2 in
      record {
        row = e.1;
        here = ap (get tables.trips) (sym order) ∙ row.0;
        by = row.1;
        is = ap (λ o. trip_in tables (o, e.1)) (sym order) ∙ found.2;
        first = ap (λ o. is_name_of (order_in o) trip.order) found.1 ∙ name_same e.0 trip.order order;
      }

  pub trip_told : (key : VehicleKey) (trip : Trip) → HasTrip (world_of tables) key trip → IsTold tables key trip
  trip_told key trip has =
      let row = vehicle_told tables key has.0 has.1 in
      open_told key trip (ap (λ (vehicle : Vehicle). vehicle.trip) row.2 ∙ has.2)

  -- no order has two trips
  pub once : HasOneTripAnOrder (world_of tables)
  once one other trip further has more same =
      let a = trip_told one trip has in
      let b = trip_told other further more in
      let row : a.row ≡ b.row = same_Some _ _ (sym a.here ∙ ap (get tables.trips) same ∙ b.here) in
      sym a.by ∙ ap (λ (r : TripRow). r.vehicle) row ∙ b.by

  -- the first row that names a vehicle is that of its trip
  pub first_open : (order : List ℕ) (row : TripRow) → get tables.trips order ≡ Some row → is_first tables row.vehicle order ≡ true → open_trip tables row.vehicle ≡ Some (trip_in tables (order, row))
  unfolding open_trip
  first_open order row at first =
      let found = named_so (find (names_vehicle row.vehicle) (finite.entries tables.trips)) order first in
      let e = found.0 in
      let same : e.1 ≡ row = same_Some _ _ (sym (found_row row.vehicle e found.1).0 ∙ ap (get tables.trips) found.2 ∙ at) in
      ap (option_map (trip_in tables)) found.1 ∙ ap (λ (x : Entry). Some (trip_in tables x)) (λ i. (found.2 i, same i))

  -- ---- edge rows
  abbrev named_edges : List (LegKey × List ℕ) → List Edge
  named_edges legs = filter_map (λ (leg : LegKey × List ℕ). edge_named tables.edges leg.1) legs

  named_one : (id : List ℕ) → is_some (get tables.edges id) ≡ true → (edge : Edge) × (edge_named tables.edges id ≡ Some edge) × (edge.id ≡ id)
  named_one id known =
      let ends = there (get tables.edges id) known in
      (edge_of id ends.0, ap (option_map (edge_of id)) ends.1, refl)

  -- edge rows in turn are those of their edges
  pub in_turn : (order : List ℕ) (k : ℕ) (es : List (LegKey × List ℕ)) → are_in_turn tables order k es ≡ true → numbered order k (named_edges (filter (is_of_order order) es)) ≡ filter (is_of_order order) es
  in_turn order k [] turn = refl
  in_turn order k (e ∷ es) turn =
      elim (is_of_order order e) as (λ b.
      is_of_order order e ≡ b
      → cond b (nat_eq e.0.k k && (is_some (get tables.edges e.1) && are_in_turn tables order (k + 1) es)) (are_in_turn tables order k es) ≡ true
      → numbered order k (named_edges (cond b (e ∷ filter (is_of_order order) es) (filter (is_of_order order) es))) ≡ cond b (e ∷ filter (is_of_order order) es) (filter (is_of_order order) es)) [
        | true ↦ λ own is.
            let parts = and_parts _ _ is in
            let more = and_parts _ _ parts.1 in
            let edge = named_one e.1 more.0 in
            let place : k ≡ e.0.k = sym (eqb-true e.0.k k parts.0) in
            let same : order ≡ e.0.order = sym (same_name e.0.order order own) in
            let rest = in_turn order (k + 1) es more.1 in
            ap (λ o. numbered order k (cons_option o (named_edges (filter (is_of_order order) es)))) edge.1
            ∙ (λ i. (record { order = same i; k = place i }, edge.2 i) ∷ rest i)
        | false ↦ λ own is. in_turn order k es is
      ] refl turn

  pub rows_told : (order : List ℕ) → are_in_turn tables order 0 (finite.entries tables.legs) ≡ true → numbered order 0 (edges_of tables order) ≡ filter (is_of_order order) (finite.entries tables.legs)
  unfolding edges_of
  rows_told order turn = in_turn order 0 (finite.entries tables.legs) turn

  -- the table has an edge row of the order just where the trip has the edge
  pub leg_row_told : (order : List ℕ) → are_in_turn tables order 0 (finite.entries tables.legs) ≡ true → (q : LegKey) → finite.find leg_cmp q (numbered order 0 (edges_of tables order)) ≡ cond (pointwise nat_eq q.order order) (get tables.legs q) None
  leg_row_told order turn q =
      ap (finite.find leg_cmp q) (rows_told order turn)
      ∙ find-where_key leg_cmp (λ (key : LegKey). pointwise nat_eq key.order order) q (λ x tied. ap (λ (key : LegKey). pointwise nat_eq key.order order) (sym (leg_cmp-IsAntisymmetric q x tied))) (finite.entries tables.legs)
      ∙ ap (λ row. cond (pointwise nat_eq q.order order) row None) (sym (get-entries tables.legs q))

  -- ---- rows of edges in turn
  abbrev IsKnown : Edge → Type 0
  IsKnown edge = is_some (get tables.edges edge.id) ≡ true

  head_same : (x y : LegKey × List ℕ) (xs ys : List (LegKey × List ℕ)) → x ∷ xs ≡ y ∷ ys → (x ≡ y) × (xs ≡ ys)
  head_same x y xs ys e = (cc, cc)

  nil_not_cons : (x : LegKey × List ℕ) (xs : List (LegKey × List ℕ)) → x ∷ xs ≡ [] → ⊥
  nil_not_cons x xs e = cc

  with_edges : (order : List ℕ) (k : ℕ) (edges : List Edge) → AllByRecursion IsKnown edges → (e : LegKey × List ℕ) (es : List (LegKey × List ℕ))
      → ((more : List Edge) → AllByRecursion IsKnown more → filter (is_of_order order) es ≡ numbered order (k + 1) more → are_in_turn tables order (k + 1) es ≡ true)
      → e ∷ filter (is_of_order order) es ≡ numbered order k edges
      → (nat_eq e.0.k k && (is_some (get tables.edges e.1) && are_in_turn tables order (k + 1) es)) ≡ true
  with_edges order k [] known e es rest at = absurd (nil_not_cons e (filter (is_of_order order) es) at)
  with_edges order k (edge ∷ edges) known e es rest at =
      let same = head_same e (record { order = order; k = k }, edge.id) (filter (is_of_order order) es) (numbered order (k + 1) edges) at in
      and_from _ _
      (eq-eqb e.0.k k (ap (λ (leg : LegKey × List ℕ). leg.0.k) same.0))
      (and_from _ _ (ap (λ (leg : LegKey × List ℕ). is_some (get tables.edges leg.1)) same.0 ∙ known.0) (rest edges known.1 same.1))

  pub turns : (order : List ℕ) (k : ℕ) (edges : List Edge) → AllByRecursion IsKnown edges → (es : List (LegKey × List ℕ)) → filter (is_of_order order) es ≡ numbered order k edges → are_in_turn tables order k es ≡ true
  turns order k edges known [] is = refl
  turns order k edges known (e ∷ es) is =
      elim (is_of_order order e) as (λ b.
      cond b (e ∷ filter (is_of_order order) es) (filter (is_of_order order) es) ≡ numbered order k edges
      → cond b (nat_eq e.0.k k && (is_some (get tables.edges e.1) && are_in_turn tables order (k + 1) es)) (are_in_turn tables order k es) ≡ true) [
        | true ↦ λ at. with_edges order k edges known e es (λ more all same. turns order (k + 1) more all es same) at
        | false ↦ λ at. turns order k edges known es at
      ] is
