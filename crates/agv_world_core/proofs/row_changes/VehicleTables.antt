-- What the changes of a vehicle leave at a key of each table that comes from the vehicles: the row of the new one, none where the old one had one, and else what stood there.
use Rattle.std.proofs.Common.{◌≡◌, ◌&&◌, not, ℕ, ◌+◌, ◌≤◌, arith, Bool, true, false, cond, is_some, List, [], ◌∷◌, map, Option, Some, None, refl, sym, ap, ◌∙◌}
use Rattle.std.specs.FinMap.{FinMap, get, insert, remove, find, get-insert, get-remove}
use Rattle.std.specs.List.{enumerate_from}
use Rattle.std.specs.Option.{option_or}
use Rattle.std.specs.Ordering.{eq_by_cmp}
use Rattle.std.proofs.lemmas.Map.Views.{any-filter_same}
use Rattle.agv_header.specs.Key.{key_cmp, thing_cmp}
use Rattle.agv_header.specs.KeyOrder.{key_cmp-total}
use Rattle.agv_header.specs.Name.{name_cmp}
use Rattle.agv_header.specs.ThingOrder.{thing_cmp-total, thing_cmp-IsAntisymmetric}
use Rattle.agv_header.specs.declared.key.Thing.{Thing}
use Rattle.agv_header.specs.declared.key.VehicleKey.{VehicleKey}
use Rattle.agv_layout.specs.declared.edge.Edge.{Edge}
use Rattle.agv_order.specs.declared.trip.Trip.{Trip}
use Rattle.agv_track_holds.specs.Holders.{gained}
use Rattle.agv_track_holds.specs.Holds.{is_in}
use Rattle.agv_world_core.specs.KeyOrders.{leg_cmp-total, leg_cmp-IsAntisymmetric}
use Rattle.agv_world_core.specs.Keys.{leg_cmp}
use Rattle.agv_world_core.specs.Maps.{Maps, rows_of_trip, trip_rows, trip_row, leg_rows, legs_of_trip, hold_rows, vehicle_rows}
use Rattle.agv_world_core.specs.SameRows.{same_row, same_trip_row}
use Rattle.agv_world_core.specs.VehicleChanges.{KeepsOrderAndEdges, own_changes, trip_changes, hold_changes, row_before, trip_before, held_before}
use Rattle.agv_world_core.specs.Changes.{changed}
use Rattle.agv_world_core.specs.Worlds.{Vehicle}
use Rattle.agv_world_core.specs.declared.change.Change.TheVariants as row
use Rattle.agv_world_core.specs.declared.key.LegKey.{LegKey}
use Rattle.agv_world_core.specs.declared.row.TripRow.{TripRow}
use Rattle.agv_world_core.specs.declared.row.VehicleRow.{VehicleRow}
use Rattle.agv_world_core.proofs.row_changes.ChangeRuns.{changed-append, changed-legs, changed-holds}
use Rattle.agv_world_core.proofs.row_changes.Edits.{edit_all, edited, get-edit_all, edited-run}
use Rattle.agv_world_core.proofs.lists.Entries.{is_same}
use Rattle.agv_world_core.proofs.world_rows.Holders.{find-run}
use Rattle.agv_world_core.proofs.lists.Orders.{names_total}
use Rattle.agv_world_core.proofs.row_changes.Respreads.{given, replaced, stays_same}
use Rattle.agv_world_core.proofs.world_rows.RowKeys.{numbered, leg_at, number_key}
use Rattle.agv_world_core.proofs.row_changes.SameRows.{row_stays, trip_row_stays}

-- ---- a table with one row written or removed
written : {Y : Type 0} (b : Bool) (y : Y) (stood : Option Y) → cond b (Some y) stood ≡ replaced (cond b (Some y) None) None stood
written true y stood = refl
written false y stood = refl

rewritten : {Y : Type 0} (b : Bool) (y x : Y) (stood : Option Y) → cond b (Some y) stood ≡ replaced (cond b (Some y) None) (cond b (Some x) None) stood
rewritten true y x stood = refl
rewritten false y x stood = refl

removed : {Y : Type 0} (b : Bool) (y : Y) (stood : Option Y) → cond b None stood ≡ replaced None (cond b (Some y) None) stood
removed true y stood = refl
removed false y stood = refl

-- ---- own rows
abbrev pub own_table : VehicleKey → Option VehicleRow → VehicleRow → FinMap key_cmp VehicleRow → FinMap key_cmp VehicleRow
own_table key None new t = insert t key new
own_table key (Some old) new t = cond (same_row old new) t (insert t key new)

pub changed-own : (key : VehicleKey) (old : Option VehicleRow) (new : VehicleRow) (r : Maps) → changed (own_changes key old new) r ≡ record r { vehicles = own_table key old new r.vehicles }
unfolding changed
changed-own key None new r = refl
changed-own key (Some old) new r =
    elim (same_row old new) as (λ same. changed (cond same [] (row.Vehicle key new ∷ [])) r ≡ record r { vehicles = cond same r.vehicles (insert r.vehicles key new) }) [ true ↦ refl | false ↦ refl ]

-- the old row stands, and the new one is there afterwards
abbrev of_row : VehicleKey → VehicleKey → Option VehicleRow → Option VehicleRow
of_row key q None = None
of_row key q (Some old) = cond (eq_by_cmp key_cmp q key) (Some old) None

own_went_on : (key : VehicleKey) (old new : VehicleRow) (t : FinMap key_cmp VehicleRow) (q : VehicleKey) → ((y : VehicleRow) → of_row key q (Some old) ≡ Some y → get t q ≡ Some y)
    → (same : Bool) → same_row old new ≡ same → get (cond same t (insert t key new)) q ≡ replaced (cond (eq_by_cmp key_cmp q key) (Some new) None) (of_row key q (Some old)) (get t q)
own_went_on key old new t q stood true is =
    stays_same (of_row key q (Some old)) (get t q) stood
    ∙ (λ i. replaced (cond (eq_by_cmp key_cmp q key) (Some (row_stays old new is i)) None) (of_row key q (Some old)) (get t q))
own_went_on key old new t q stood false is = get-insert key_cmp-total t key new q ∙ rewritten (eq_by_cmp key_cmp q key) new old (get t q)

pub own_at : (key : VehicleKey) (old : Option VehicleRow) (new : VehicleRow) (t : FinMap key_cmp VehicleRow) (q : VehicleKey) → ((y : VehicleRow) → of_row key q old ≡ Some y → get t q ≡ Some y)
    → get (own_table key old new t) q ≡ replaced (cond (eq_by_cmp key_cmp q key) (Some new) None) (of_row key q old) (get t q)
own_at key None new t q stood = get-insert key_cmp-total t key new q ∙ written (eq_by_cmp key_cmp q key) new (get t q)
own_at key (Some old) new t q stood = own_went_on key old new t q stood (same_row old new) refl

pub given_own : (key : VehicleKey) (o : Option Vehicle) (q : VehicleKey) → of_row key q (row_before o) ≡ given key_cmp vehicle_rows key o q
given_own key None q = refl
given_own key (Some old) q = refl

-- ---- trips
abbrev pub trip_table : VehicleKey → Option Trip → Option Trip → FinMap name_cmp TripRow → FinMap name_cmp TripRow
trip_table key None None t = t
trip_table key None (Some new) t = insert t new.order (trip_row key new)
trip_table key (Some old) None t = remove t old.order
trip_table key (Some old) (Some new) t = cond (same_trip_row old new) t (insert t new.order (trip_row key new))

-- a trip that goes on: its row stays, or it is written
went_on : (key : VehicleKey) (old new : Trip) → new.order ≡ old.order → (t : FinMap name_cmp TripRow) (q : List ℕ)
    → ((y : TripRow) → find name_cmp q (rows_of_trip key (Some old)) ≡ Some y → get t q ≡ Some y) → (same : Bool) → same_trip_row old new ≡ same
    → get (cond same t (insert t new.order (trip_row key new))) q
    ≡ replaced (find name_cmp q (rows_of_trip key (Some new))) (find name_cmp q (rows_of_trip key (Some old))) (get t q)
went_on key old new order t q stood true is =
    stays_same (find name_cmp q (rows_of_trip key (Some old))) (get t q) stood
    ∙ (λ i. replaced (cond (eq_by_cmp name_cmp q (sym order i)) (Some (trip_row_stays key old new is i)) None) (find name_cmp q (rows_of_trip key (Some old))) (get t q))
went_on key old new order t q stood false is =
    get-insert names_total t new.order (trip_row key new) q
    ∙ rewritten (eq_by_cmp name_cmp q new.order) (trip_row key new) (trip_row key old) (get t q)
    ∙ ap (λ o. replaced (cond (eq_by_cmp name_cmp q new.order) (Some (trip_row key new)) None) (cond (eq_by_cmp name_cmp q o) (Some (trip_row key old)) None) (get t q)) order

pub trips_at : (key : VehicleKey) (old new : Option Trip) → KeepsOrderAndEdges old new → (t : FinMap name_cmp TripRow) (q : List ℕ)
    → ((y : TripRow) → find name_cmp q (rows_of_trip key old) ≡ Some y → get t q ≡ Some y)
    → get (trip_table key old new t) q ≡ replaced (find name_cmp q (rows_of_trip key new)) (find name_cmp q (rows_of_trip key old)) (get t q)
trips_at key None None goes t q stood = refl
trips_at key None (Some new) goes t q stood = get-insert names_total t new.order (trip_row key new) q ∙ written (eq_by_cmp name_cmp q new.order) (trip_row key new) (get t q)
trips_at key (Some old) None goes t q stood = get-remove names_total t old.order q ∙ removed (eq_by_cmp name_cmp q old.order) (trip_row key old) (get t q)
trips_at key (Some old) (Some new) goes t q stood = went_on key old new goes.0 t q stood (same_trip_row old new) refl

pub given_trip : (key : VehicleKey) (o : Option Vehicle) (q : List ℕ) → find name_cmp q (rows_of_trip key (trip_before o)) ≡ given name_cmp trip_rows key o q
given_trip key None q = refl
given_trip key (Some old) q = refl

-- ---- the edges of trips
abbrev leg_puts : List ℕ → ℕ → List Edge → List (LegKey × Option (List ℕ))
leg_puts order i edges = map (λ (n : ℕ × Edge). (leg_at order n.0, Some n.1.id)) (enumerate_from i edges)

abbrev leg_drops : List ℕ → ℕ → List Edge → List (LegKey × Option (List ℕ))
leg_drops order i edges = map (λ (n : ℕ × Edge). (leg_at order n.0, None)) (enumerate_from i edges)

none_at : (order : List ℕ) (i : ℕ) (edges : List Edge) (r : Option (List ℕ)) → find leg_cmp (leg_at order i) (numbered order (i + 1) edges) ≡ r → r ≡ None
none_at order i edges None e = refl
none_at order i edges (Some y) e = let low : i + 1 ≤ i = (number_key order (i + 1) edges (leg_at order i) y e).1 in absurd (omega (arith, low))

edited-puts : (q : LegKey) (order : List ℕ) (i : ℕ) (edges : List Edge) (y : Option (List ℕ)) → edited leg_cmp q (leg_puts order i edges) y ≡ option_or (find leg_cmp q (numbered order i edges)) y
edited-puts q order i [] y = refl
edited-puts q order i (edge ∷ edges) y = edited-puts q order (i + 1) edges (cond (eq_by_cmp leg_cmp q (leg_at order i)) (Some edge.id) y)
    ∙ elim (eq_by_cmp leg_cmp q (leg_at order i)) as (λ b. eq_by_cmp leg_cmp q (leg_at order i) ≡ b
    → option_or (find leg_cmp q (numbered order (i + 1) edges)) (cond b (Some edge.id) y) ≡ option_or (cond b (Some edge.id) (find leg_cmp q (numbered order (i + 1) edges))) y) [
      | true ↦ λ s. ap (λ (r : Option (List ℕ)). option_or r (Some edge.id)) (ap (λ k. find leg_cmp k (numbered order (i + 1) edges)) (is_same leg_cmp-IsAntisymmetric q (leg_at order i) s) ∙ none_at order i edges _ refl)
      | false ↦ λ s. refl
    ] refl

edited-drops : (q : LegKey) (order : List ℕ) (i : ℕ) (edges : List Edge) (y : Option (List ℕ)) → edited leg_cmp q (leg_drops order i edges) y ≡ cond (is_some (find leg_cmp q (numbered order i edges))) None y
edited-drops q order i [] y = refl
edited-drops q order i (edge ∷ edges) y = edited-drops q order (i + 1) edges (cond (eq_by_cmp leg_cmp q (leg_at order i)) None y)
    ∙ elim (eq_by_cmp leg_cmp q (leg_at order i)) as (λ b.
    cond (is_some (find leg_cmp q (numbered order (i + 1) edges))) None (cond b None y) ≡ cond (is_some (cond b (Some edge.id) (find leg_cmp q (numbered order (i + 1) edges)))) None y) [
      | true ↦ elim (is_some (find leg_cmp q (numbered order (i + 1) edges))) as (λ c. cond {A = Option (List ℕ)} c None None ≡ None) [ true ↦ refl | false ↦ refl ]
      | false ↦ refl
    ]

abbrev pub leg_table : Option Trip → Option Trip → FinMap leg_cmp (List ℕ) → FinMap leg_cmp (List ℕ)
leg_table None None t = t
leg_table None (Some new) t = edit_all (leg_puts new.order 0 new.edges) t
leg_table (Some old) None t = edit_all (leg_drops old.order 0 old.edges) t
leg_table (Some old) (Some new) t = t

pub legs_at : (old new : Option Trip) → KeepsOrderAndEdges old new → (t : FinMap leg_cmp (List ℕ)) (q : LegKey) → ((y : List ℕ) → find leg_cmp q (legs_of_trip old) ≡ Some y → get t q ≡ Some y)
    → get (leg_table old new t) q ≡ replaced (find leg_cmp q (legs_of_trip new)) (find leg_cmp q (legs_of_trip old)) (get t q)
legs_at None None goes t q stood = refl
legs_at None (Some new) goes t q stood = get-edit_all leg_cmp-total (leg_puts new.order 0 new.edges) t q ∙ edited-puts q new.order 0 new.edges (get t q)
legs_at (Some old) None goes t q stood = get-edit_all leg_cmp-total (leg_drops old.order 0 old.edges) t q ∙ edited-drops q old.order 0 old.edges (get t q)
legs_at (Some old) (Some new) goes t q stood =
    stays_same (find leg_cmp q (legs_of_trip (Some old))) (get t q) stood
    ∙ (λ i. replaced (find leg_cmp q (numbered (sym goes.0 i) 0 (sym goes.1 i))) (find leg_cmp q (legs_of_trip (Some old))) (get t q))

pub given_legs : (key : VehicleKey) (o : Option Vehicle) (q : LegKey) → find leg_cmp q (legs_of_trip (trip_before o)) ≡ given leg_cmp leg_rows key o q
given_legs key None q = refl
given_legs key (Some old) q = refl

-- a trip's changes are those of the two tables
pub changed-trip : (key : VehicleKey) (old new : Option Trip) (r : Maps) → changed (trip_changes key old new) r ≡ record r { trips = trip_table key old new r.trips; legs = leg_table old new r.legs }
unfolding changed
changed-trip key None None r = refl
changed-trip key None (Some new) r = changed-legs (λ (n : ℕ × Edge). leg_at new.order n.0) (λ (n : ℕ × Edge). Some n.1.id) (enumerate_from 0 new.edges) (record r { trips = insert r.trips new.order (trip_row key new) })
changed-trip key (Some old) None r = changed-legs (λ (n : ℕ × Edge). leg_at old.order n.0) (λ (n : ℕ × Edge). None) (enumerate_from 0 old.edges) (record r { trips = remove r.trips old.order })
changed-trip key (Some old) (Some new) r = elim (same_trip_row old new) as (λ same. changed (cond same [] (row.Trip new.order (Some (trip_row key new)) ∷ [])) r
    ≡ record r { trips = cond same r.trips (insert r.trips new.order (trip_row key new)) }) [ true ↦ refl | false ↦ refl ]

-- ---- holds
abbrev pub hold_table : VehicleKey → List Thing → List Thing → FinMap thing_cmp VehicleKey → FinMap thing_cmp VehicleKey
hold_table key old new t = edit_all (map (λ x. (x, None)) (gained new old)) (edit_all (map (λ x. (x, Some key)) (gained old new)) t)

among_gained : (old new : List Thing) (q : Thing) → is_in q (gained old new) ≡ (not (is_in q old) && is_in q new)
among_gained old new q = any-filter_same (eq_by_cmp thing_cmp q) (λ thing. not (is_in thing old)) (not (is_in q old)) (λ k e. ap (λ z. not (is_in z old)) (sym (is_same thing_cmp-IsAntisymmetric q k e))) new

moved : (key : VehicleKey) (new old : Bool) (stood : Option VehicleKey) → (old ≡ true → stood ≡ Some key)
    → cond (not new && old) None (cond (not old && new) (Some key) stood) ≡ replaced (cond new (Some key) None) (cond old (Some key) None) stood
moved key true true stood own = own refl
moved key true false stood own = refl
moved key false true stood own = refl
moved key false false stood own = refl

pub given_holds : (key : VehicleKey) (o : Option Vehicle) (q : Thing) → given thing_cmp hold_rows key o q ≡ cond (is_in q (held_before o)) (Some key) None
given_holds key None q = refl
given_holds key (Some old) q = find-run key q (held_before (Some old))

pub holds_at : (key : VehicleKey) (old new : List Thing) (t : FinMap thing_cmp VehicleKey) (q : Thing) → (is_in q old ≡ true → get t q ≡ Some key)
    → get (hold_table key old new t) q ≡ replaced (cond (is_in q new) (Some key) None) (cond (is_in q old) (Some key) None) (get t q)
holds_at key old new t q own =
    get-edit_all thing_cmp-total (map (λ x. (x, None)) (gained new old)) (edit_all (map (λ x. (x, Some key)) (gained old new)) t) q
    ∙ edited-run thing_cmp q None (gained new old) _
    ∙ ap (λ (o : Option VehicleKey). cond (is_in q (gained new old)) None o) (get-edit_all thing_cmp-total (map (λ x. (x, Some key)) (gained old new)) t q ∙ edited-run thing_cmp q (Some key) (gained old new) (get t q))
    ∙ (λ i. cond (among_gained new old q i) None (cond (among_gained old new q i) (Some key) (get t q)))
    ∙ moved key (is_in q new) (is_in q old) (get t q) own

pub changed-hold : (key : VehicleKey) (old new : List Thing) (r : Maps) → changed (hold_changes key old new) r ≡ record r { holds = hold_table key old new r.holds }
changed-hold key old new r =
    changed-append (map (λ x. row.Hold x (Some key)) (gained old new)) (map (λ x. row.Hold x None) (gained new old)) r
    ∙ ap (changed (map (λ x. row.Hold x None) (gained new old))) (changed-holds (Some key) (gained old new) r)
    ∙ changed-holds None (gained new old) (record r { holds = edit_all (map (λ x. (x, Some key)) (gained old new)) r.holds })
