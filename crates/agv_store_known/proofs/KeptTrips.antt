-- The open trips that are kept beside the tables, and that the maps have them once rows were written.
use Rattle.std.proofs.Common.{◌≡◌, ℕ, Bool, true, false, not, cond, nat_eq, List, [], ◌∷◌, filter, Option, None, Some, Result, Ok, Err, OnOk, OnErr, Ordering, Less, Equal, Greater, is_eq, refl, sym, ap, subst, ◌∙◌}
use Rattle.std.specs.BTreeMap as tree
use Rattle.std.specs.BTreeSet as trees
use Rattle.std.specs.Cmp.{Equal-is, tied_itself}
use Rattle.std.specs.Cmp.Lexicographic.{pointwise, texts_ties}
use Rattle.std.specs.FinMap as finite
use Rattle.std.specs.FinMap.Entries.{by_order, where_key}
use Rattle.std.specs.List.{filter_map}
use Rattle.std.specs.Ordering.{eq_by_cmp}
use Rattle.agv_header.specs.Key.{key_cmp}
use Rattle.agv_header.specs.KeyOrder.{key_cmp-IsAntisymmetric, key_cmp-total}
use Rattle.agv_header.specs.Name.{name_cmp}
use Rattle.agv_header.specs.declared.key.VehicleKey.{VehicleKey}
use Rattle.agv_order.specs.declared.trip.Trip.{Trip}
use Rattle.agv_world_core.specs.Changes.{change}
use Rattle.agv_world_core.specs.KeyOrders.{leg_cmp-IsAntisymmetric, leg_cmp-total}
use Rattle.agv_world_core.specs.Keys.{leg_cmp}
use Rattle.agv_world_core.specs.Maps.{Maps, trip_row}
use Rattle.agv_header.specs.Spread.{edit}
use Rattle.agv_world_core.specs.Told.{edge_named, edges_of, is_of_order}
use Rattle.agv_world_core.specs.declared.change.Change.{Change}
use Rattle.agv_world_core.specs.declared.change.Change.TheVariants as row
use Rattle.agv_world_core.specs.declared.key.LegKey.{LegKey}
use Rattle.agv_world_core.specs.declared.row.TripRow.{TripRow}
use Rattle.agv_world_core.proofs.lists.Orders.{names_apart, names_total}
use Rattle.agv_store_known.specs.KeptTrips.{AreOpen, HasNoTrip, HaveNoTrip, IsTripOf, OpenTrips, Without, with_row}
use Rattle.agv_store_known.proofs.KeptMaps.{one_more_entry, same_entries}
use Rattle.agv_store_rows.specs.DecodedTrips.{HasTripRows, tables_of}
use Rattle.agv_store_schema.proofs.MapEntries.{entries-remove}
use Rattle.agv_store_known.specs.KeptLayouts.{is_of_layout}

-- ---- entries that don't pass a test

module _ {K X : Type 0} (R : K → K → Ordering) (p : K × X → Bool) (k : K) (out : (q : K) (x : X) → eq_by_cmp R k q ≡ true → p (q, x) ≡ false) where
  left_out : (e : K × X) (es : List (K × X)) → p e ≡ false → filter p (e ∷ es) ≡ filter p es
  left_out e es fails = ap (λ b. cond b (e ∷ filter p es) (filter p es)) fails

  -- one that is put
  filter-put : (x : X) (es : List (K × X)) → p (k, x) ≡ false → filter p (finite.put R k x es) ≡ filter p es
  filter-put x [] fails = left_out (k, x) [] fails
  filter-put x (e ∷ es) fails =
      elim (R k e.0) as (λ r. R k e.0 ≡ r → filter p (by_order r ((k, x) ∷ e ∷ es) ((e.0, x) ∷ es) (e ∷ finite.put R k x es)) ≡ filter p (e ∷ es)) [
        | Less ↦ λ _. left_out (k, x) (e ∷ es) fails
        | Equal ↦ λ tied. left_out (e.0, x) es (out e.0 x (ap is_eq tied)) ∙ sym (left_out e es (out e.0 e.1 (ap is_eq tied)))
        | Greater ↦ λ _. ap (λ (rest : List (K × X)). cond (p e) (e ∷ rest) rest) (filter-put x es fails)
      ] refl

  -- one that is taken out
  filter-taken : (es : List (K × X)) → filter p (where_key R (λ q. not (eq_by_cmp R k q)) es) ≡ filter p es
  filter-taken [] = refl
  filter-taken (e ∷ es) =
      let rest = where_key R (λ q. not (eq_by_cmp R k q)) es in
      elim (eq_by_cmp R k e.0) as (λ b. eq_by_cmp R k e.0 ≡ b → filter p (cond (not b) (e ∷ rest) rest) ≡ filter p (e ∷ es)) [
        | true ↦ λ tied. filter-taken es ∙ sym (left_out e es (out e.0 e.1 tied))
        | false ↦ λ _. ap (λ (l : List (K × X)). cond (p e) (e ∷ l) l) (filter-taken es)
      ] refl

-- ---- rows of edges

-- a row of another order is none of this one
not_its : (leg : LegKey) (order : List ℕ) → pointwise nat_eq leg.order order ≡ false → (q : LegKey) (edge : List ℕ) → eq_by_cmp leg_cmp leg q ≡ true → is_of_order order (q, edge) ≡ false
not_its leg order other q edge tied = ap (λ (key : LegKey). pointwise nat_eq key.order order) (sym (leg_cmp-IsAntisymmetric leg q ((Equal-is (leg_cmp leg q)).0 tied))) ∙ other

-- it changes none of this one's
same_legs : (legs : finite.FinMap leg_cmp (List ℕ)) (leg : LegKey) (edge : Option (List ℕ)) (order : List ℕ) → pointwise nat_eq leg.order order ≡ false
    → filter (is_of_order order) (finite.entries (edit legs leg edge)) ≡ filter (is_of_order order) (finite.entries legs)
same_legs legs leg None order other =
    ap (filter (is_of_order order)) (entries-remove leg_cmp-total leg_cmp-IsAntisymmetric legs leg)
    ∙ filter-taken leg_cmp (is_of_order order) leg (not_its leg order other) (finite.entries legs)
same_legs legs leg (Some edge) order other =
    ap (filter (is_of_order order)) (finite.entries-insert leg_cmp-total legs leg edge)
    ∙ filter-put leg_cmp (is_of_order order) leg (not_its leg order other) edge (finite.entries legs) other

-- ---- rows that are written

-- what is kept but for one order is as it was, where the change leaves the trips of other orders
pub others_stay : (trips new : OpenTrips) (order : List ℕ) (one : Change)
    → ((trip : Trip) (maps : Maps) → tree.is_at (name_cmp order) trip.order ≡ false → HasTripRows maps trip → HasTripRows (change maps one) trip)
    → ((other : List ℕ) → tree.get name_cmp new other ≡ cond (tree.is_at (name_cmp order) other) None (tree.get name_cmp trips other))
    → (maps : Maps) → AreOpen trips maps → AreOpen new (change maps one)
others_stay trips new order one stay takes maps are other trip there =
    elim (tree.is_at (name_cmp order) other) as (λ b. tree.is_at (name_cmp order) other ≡ b → cond b None (tree.get name_cmp trips other) ≡ Some trip → IsTripOf (change maps one) other trip) [
      | true ↦ λ tied is. absurd (cc is)
      | false ↦ λ untied is.
          let its = are other trip is in
          (its.0, stay trip maps (ap (tree.is_at (name_cmp order)) its.0 ∙ untied) its.1)
    ] refl (sym (takes other) ∙ there)

-- a row of an edge of another order
leg_of_another : (leg : LegKey) (edge : Option (List ℕ)) (trip : Trip) (maps : Maps) → tree.is_at (name_cmp leg.order) trip.order ≡ false → HasTripRows maps trip → HasTripRows (change maps (row.Leg leg edge)) trip
unfolding edges_of
leg_of_another leg edge trip maps untied has = (
  has.0,
  has.1 ∙ ap (λ legs. filter_map (λ (leg : LegKey × List ℕ). edge_named maps.edges leg.1) legs) (sym (same_legs maps.legs leg edge trip.order (texts_ties leg.order trip.order ∙ untied))),
)

-- where the trip of its order is forgotten, the maps have those that are kept
pub leg_forgotten : (trips new : OpenTrips) (leg : LegKey) (edge : Option (List ℕ)) → ((other : List ℕ) → tree.get name_cmp new other ≡ cond (tree.is_at (name_cmp leg.order) other) None (tree.get name_cmp trips other))
    → (maps : Maps) → AreOpen trips maps → AreOpen new (change maps (row.Leg leg edge))
leg_forgotten trips new leg edge = others_stay trips new leg.order (row.Leg leg edge) (leg_of_another leg edge)

another : (order other : List ℕ) → tree.is_at (name_cmp order) other ≡ false → eq_by_cmp name_cmp other order ≡ false
another order other untied =
    elim (eq_by_cmp name_cmp other order) as (λ b. eq_by_cmp name_cmp other order ≡ b → b ≡ false) [
      | true ↦ λ tied. absurd (cc (sym untied ∙ ap (tree.is_at (name_cmp order)) (names_apart other order ((Equal-is (name_cmp other order)).0 tied)) ∙ ap is_eq (tied_itself names_total order)))
      | false ↦ λ _. refl
    ] refl

edit_elsewhere : (table : finite.FinMap name_cmp TripRow) (order : List ℕ) (its : Option TripRow) (other : List ℕ) → eq_by_cmp name_cmp other order ≡ false → finite.get (edit table order its) other ≡ finite.get table other
edit_elsewhere table order None other untied = finite.get-remove names_total table order other ∙ ap (λ b. cond b None (finite.get table other)) untied
edit_elsewhere table order (Some its) other untied = finite.get-insert names_total table order its other ∙ ap (λ b. cond b (Some its) (finite.get table other)) untied

-- a row of the trip of another order
trip_of_another : (order : List ℕ) (its : Option TripRow) (trip : Trip) (maps : Maps) → tree.is_at (name_cmp order) trip.order ≡ false → HasTripRows maps trip → HasTripRows (change maps (row.Trip order its)) trip
unfolding edges_of
trip_of_another order its trip maps untied has = (edit_elsewhere maps.trips order its trip.order (another order trip.order untied) ∙ has.0, has.1)

pub trip_forgotten : (trips new : OpenTrips) (order : List ℕ) (its : Option TripRow) → ((other : List ℕ) → tree.get name_cmp new other ≡ cond (tree.is_at (name_cmp order) other) None (tree.get name_cmp trips other))
    → (maps : Maps) → AreOpen trips maps → AreOpen new (change maps (row.Trip order its))
trip_forgotten trips new order its = others_stay trips new order (row.Trip order its) (trip_of_another order its)

-- the trip is as the row says that is written
row_put : (order : List ℕ) (trip : Trip) (its : TripRow) (maps : Maps) → IsTripOf maps order trip → IsTripOf (change maps (row.Trip order (Some its))) order (with_row trip its)
unfolding edges_of
row_put order trip its maps is = (
  is.0,
  (
    ap (finite.get (finite.insert maps.trips order its)) is.0
        ∙ finite.get-insert names_total maps.trips order its order
        ∙ ap (λ o. cond (is_eq o) (Some its) (finite.get maps.trips order)) (tied_itself names_total order),
    is.1.1,
  ),
)

-- so it can be kept in the place of the one before, where there is memory for it
pub trip_put : {E : Type 0} (trips mid new : OpenTrips) (order : List ℕ) (trip written : Trip) (its : TripRow) → tree.get name_cmp trips order ≡ Some trip → written ≡ with_row trip its
    → ((other : List ℕ) → tree.get name_cmp mid other ≡ cond (tree.is_at (name_cmp order) other) None (tree.get name_cmp trips other))
    → (r : Result (Option Trip) E) → OnOk r (tree.Updates name_cmp mid new order (Some written)) → OnErr r (tree.IsUnchanged mid new)
    → (maps : Maps) → AreOpen trips maps → AreOpen new (change maps (row.Trip order (Some its)))
trip_put trips mid new order trip written its was is takes (Ok before) puts same maps are =
    one_more_entry name_cmp names_apart (IsTripOf (change maps (row.Trip order (Some its)))) mid new order written puts.0
    (subst (IsTripOf (change maps (row.Trip order (Some its))) order) (sym is) (row_put order trip its maps (are order trip was)))
    (trip_forgotten trips mid order (Some its) takes maps are)
trip_put trips mid new order trip written its was is takes (Err back) puts same maps are =
    same_entries name_cmp names_apart (IsTripOf (change maps (row.Trip order (Some its)))) mid new same (trip_forgotten trips mid order (Some its) takes maps are)

-- a row that is none of an edge, of a trip or of the layout leaves each
pub trips_stay : (trips : OpenTrips) (one : Change) → is_of_layout one ≡ false → ((leg : LegKey) (edge : Option (List ℕ)) → one ≡ row.Leg leg edge → ⊥) → ((order : List ℕ) (its : Option TripRow) → one ≡ row.Trip order its → ⊥)
    → (maps : Maps) → AreOpen trips maps → AreOpen trips (change maps one)
unfolding edges_of
trips_stay trips (row.Node id) laid leg trip maps are = absurd (cc laid)
trips_stay trips (row.Edge id ends) laid leg trip maps are = absurd (cc laid)
trips_stay trips (row.Station id site) laid leg trip maps are = absurd (cc laid)
trips_stay trips (row.Vehicle key vehicle) laid leg trip maps are = are
trips_stay trips (row.Trip order its) laid leg trip maps are = absurd (trip order its refl)
trips_stay trips (row.Leg key edge) laid leg trip maps are = absurd (leg key edge refl)
trips_stay trips (row.Load id to) laid leg trip maps are = are
trips_stay trips (row.Job id job) laid leg trip maps are = are
trips_stay trips (row.Hold thing key) laid leg trip maps are = are
trips_stay trips (row.Used key) laid leg trip maps are = are

-- ---- vehicles that are known to have no trip

-- a row that is none of a trip leaves each
pub without_stay : (without : Without) (one : Change) → ((order : List ℕ) (its : Option TripRow) → one ≡ row.Trip order its → ⊥) → (maps : Maps) → HaveNoTrip without maps → HaveNoTrip without (change maps one)
without_stay without (row.Node id) trip maps are = are
without_stay without (row.Edge id ends) trip maps are = are
without_stay without (row.Station id site) trip maps are = are
without_stay without (row.Vehicle key vehicle) trip maps are = are
without_stay without (row.Trip order its) trip maps are = absurd (trip order its refl)
without_stay without (row.Leg key edge) trip maps are = are
without_stay without (row.Load id to) trip maps are = are
without_stay without (row.Job id job) trip maps are = are
without_stay without (row.Hold thing key) trip maps are = are
without_stay without (row.Used key) trip maps are = are

-- nor does the row of a trip that is taken away
pub trip_taken : (without : Without) (order : List ℕ) (its : Option TripRow) → its ≡ None → (maps : Maps) → HaveNoTrip without maps → HaveNoTrip without (record maps { trips = edit maps.trips order its })
trip_taken without order None none maps are key has other other_row there =
    elim (eq_by_cmp name_cmp other order) as (λ b. cond b None (finite.get maps.trips other) ≡ Some other_row → other_row.vehicle ≡ key → ⊥) [ true ↦ λ is _. absurd (cc is) | false ↦ λ is same. are key has other other_row is same ]
    (sym (finite.get-remove names_total maps.trips order other) ∙ there)
trip_taken without order (Some its) none maps are key has other other_row there = absurd (cc none)

-- without the vehicle whose trip is written they are right
pub trip_written : (without new : Without) (order : List ℕ) (its : Option TripRow) (written : TripRow) → its ≡ Some written
    → ((q : VehicleKey) → trees.contains key_cmp new q ≡ cond (tree.is_at (key_cmp written.vehicle) q) false (trees.contains key_cmp without q))
    → (maps : Maps) → HaveNoTrip without maps → HaveNoTrip new (record maps { trips = edit maps.trips order its })
trip_written without new order None written is takes maps are key has other other_row there same = absurd (cc is)
trip_written without new order (Some its) written is takes maps are key has other other_row there same =
    elim (tree.is_at (key_cmp written.vehicle) key) as (λ b. tree.is_at (key_cmp written.vehicle) key ≡ b → cond b false (trees.contains key_cmp without key) ≡ true → ⊥) [
      | true ↦ λ _ has_none. absurd (cc has_none)
      | false ↦ λ untied has_none.
          elim (eq_by_cmp name_cmp other order) as (λ b. cond b (Some its) (finite.get maps.trips other) ≡ Some other_row → ⊥) [
            | true ↦ λ this.
                let that : written ≡ other_row = cc (is, this) in
                absurd (cc (sym untied ∙ ap (λ (k : VehicleKey). tree.is_at (key_cmp k) key) (ap (λ (row : TripRow). row.vehicle) that ∙ same) ∙ ap is_eq (tied_itself key_cmp-total key)))
            | false ↦ λ that. are key has_none other other_row that same
          ] (sym (finite.get-insert names_total maps.trips order its other) ∙ there)
    ] refl (sym (takes key) ∙ has)

-- one vehicle more that has none
pub one_more_without : (without new : Without) (key : VehicleKey) (maps : Maps) → ((q : VehicleKey) → trees.contains key_cmp new q ≡ cond (tree.is_at (key_cmp key) q) true (trees.contains key_cmp without q)) → HasNoTrip maps key → HaveNoTrip without maps → HaveNoTrip new maps
one_more_without without new key maps puts none are other has =
    elim (tree.is_at (key_cmp key) other) as (λ b. tree.is_at (key_cmp key) other ≡ b → cond b true (trees.contains key_cmp without other) ≡ true → HasNoTrip maps other) [
      | true ↦ λ tied _. subst (HasNoTrip maps) (key_cmp-IsAntisymmetric key other ((Equal-is (key_cmp key other)).0 tied)) none
      | false ↦ λ untied has_none. are other has_none
    ] refl (sym (puts other) ∙ has)

-- a vehicle has no open trip where no row of one is its
pub no_trip : (maps : Maps) (key : VehicleKey) (o : Option Trip) → ((trip : Trip) → o ≡ Some trip → (trip.vehicle ≡ key) × HasTripRows maps trip) → HasNoTrip maps key → o ≡ None
no_trip maps key None has none = refl
no_trip maps key (Some trip) has none = let its = has trip refl in absurd (none trip.order (trip_row trip.vehicle trip) its.1.0 its.0)

-- and so it is the other way round
pub no_row : (maps : Maps) (key : VehicleKey) (o : Option Trip) → ((trip : Trip) → (trip.vehicle ≡ key) × HasTripRows maps trip → o ≡ Some trip) → o ≡ None → HasNoTrip maps key
no_row maps key o opens none order its there same =
    let trip : Trip = record {
      order = order;
      vehicle = its.vehicle;
      start = its.start;
      edges = edges_of (tables_of maps) order;
      first = its.first;
      base = its.base;
      sent = its.sent;
      confirmed = its.confirmed;
      seen = its.seen;
      acts = its.acts;
    } in
    absurd (cc (sym none ∙ opens trip (same, (there, refl))))
