-- Lists that tell the rows of a world follow each change of them.
use Rattle.std.proofs.Common.{◌≡◌, ℕ, not, List, [], ◌∷◌, ◌++◌, Bool, Some, None, Ordering, IsPermutation, filter, refl, sym, ap, subst, ◌∙◌}
use Rattle.std.proofs.lemmas.List.Sorted.{IsPermutation-trans}
use Rattle.std.specs.Cmp.{IsTotalOrder}
use Rattle.std.specs.Cmp.Lexicographic.{nat_list_cmp_total}
use Rattle.std.specs.FinMap.{FinMap, IsAntisymmetric, entries, insert, remove}
use Rattle.std.specs.FinSet as set
use Rattle.std.specs.Ordering.{eq_by_cmp}
use Rattle.sqlite_value.specs.Order.{Row}
use Rattle.agv_header.specs.ThingOrder.{thing_cmp-total, thing_cmp-IsAntisymmetric}
use Rattle.agv_header.specs.KeyOrder.{key_cmp-total, key_cmp-IsAntisymmetric}
use Rattle.agv_header.specs.Name.{name_cmp}
use Rattle.agv_store_rows.specs.TripRows.{act_rows, acts_of, all_act_rows, is_journey_of, is_of, journey_of, journey_rows, journeys_of}
use Rattle.agv_world_core.specs.Changes.{change, changed}
use Rattle.agv_world_core.specs.KeyOrders.{leg_cmp-total, leg_cmp-IsAntisymmetric, use_cmp-total, use_cmp-IsAntisymmetric}
use Rattle.agv_world_core.specs.Maps.{Maps}
use Rattle.agv_world_core.specs.declared.change.Change.{Change}
use Rattle.agv_world_core.specs.declared.change.Change.TheVariants as row
use Rattle.agv_world_core.specs.declared.row.TripRow.{TripRow}
use Rattle.agv_store_rows.specs.Columns.{node_columns, edge_columns, station_columns, vehicle_columns, vehicle_capacity_columns, journey_columns, act_columns, leg_columns, load_columns, job_columns, hold_columns, used_columns}
use Rattle.agv_store_schema.specs.DeskRows.{on_table, table_at, place_of, has_columns, has_key, with_put, with_rows, without_key, without_rows}
use Rattle.agv_store_rows.specs.RowKeys.{name_key, vehicle_key, leg_key, hold_key}
use Rattle.agv_store_rows.specs.Rows.{AreAlike, TellRows, listed, listed_all, marked, row_lists, rows_for, rows_in, rows_of_acts}
use Rattle.agv_store_schema.specs.RowTexts.{columns_deleted}
use Rattle.agv_store_schema.specs.declared.table_name.TableName.{TableName}
use Rattle.agv_store_schema.specs.declared.table_name.TableName.TheVariants as the
use Rattle.agv_store_schema.proofs.OnTables.{added, added-permuted, on_table-twice, with_rows-added}
use Rattle.agv_store_rows.proofs.KeyedRows.{on_table-alike, row-removed, row-written, rows-kept, rows-kept-more}
use Rattle.agv_store_rows.proofs.TripRowLaws.{FollowTrips}
use Rattle.agv_store_rows.proofs.KeyTests.{act_order_tested, capacity_tested, journey_order_tested, node_tested, edge_tested, station_tested, vehicle_tested, leg_tested, load_tested, job_tested, hold_tested, used_tested}
use Rattle.agv_store_rows.proofs.Members.{marked-insert}
pub use Rattle.agv_store_rows.proofs.KeyTests.{names_apart}

-- ---- a table of lists that are alike

-- the row of a key is removed
removed-alike : (name : TableName) (key : Row) (new : List Row) (lists others : List (List Row)) → AreAlike lists others
    → (IsPermutation (table_at (place_of name) lists) (table_at (place_of name) others) → IsPermutation (filter (λ row. not (has_key name key row)) (table_at (place_of name) lists)) new)
    → AreAlike (without_key name key lists) (on_table (place_of name) (λ _. new) others)
removed-alike name key new lists others h each = on_table-alike (place_of name) _ new lists others h each

-- a row is written in place of that of its key
put-alike : (name : TableName) (key row : Row) (new : List Row) (lists others : List (List Row)) → AreAlike lists others
    → (IsPermutation (table_at (place_of name) lists) (table_at (place_of name) others) → IsPermutation (row ∷ filter (λ row. not (has_key name key row)) (table_at (place_of name) lists)) new)
    → AreAlike (with_put name key row lists) (on_table (place_of name) (λ _. new) others)
put-alike name key row new lists others h each =
    subst (λ lists. AreAlike lists (on_table (place_of name) (λ _. new) others)) (sym (on_table-twice (place_of name) (λ rows. row ∷ rows) (filter (λ row. not (has_key name key row))) lists))
    (on_table-alike (place_of name) (λ rows. row ∷ filter (λ row. not (has_key name key row)) rows) new lists others h each)

-- rows go, and others come
renewed-alike : (name : TableName) (columns : List ℕ) (key : Row) (more new : List Row) (lists others : List (List Row)) → AreAlike lists others
    → (IsPermutation (table_at (place_of name) lists) (table_at (place_of name) others) → IsPermutation (more ++ filter (λ row. not (has_columns columns key row)) (table_at (place_of name) lists)) new)
    → AreAlike (with_rows name more (without_rows name columns key lists)) (on_table (place_of name) (λ _. new) others)
renewed-alike name columns key more new lists others h each =
    subst (λ l. AreAlike l (on_table (place_of name) (λ _. new) others))
    (sym (with_rows-added name more (without_rows name columns key lists) ∙ on_table-twice (place_of name) (added more) (filter (λ row. not (has_columns columns key row))) lists))
    (on_table-alike (place_of name) (λ rows. added more (filter (λ row. not (has_columns columns key row)) rows)) new lists others h
    (λ same. IsPermutation-trans _ _ _ (added-permuted more (filter (λ row. not (has_columns columns key row)) (table_at (place_of name) lists))) (each same)))

-- ---- trips

-- entries are written as their lists are
moved : {K X : Type 0} {R : K → K → Ordering} (m n : FinMap R X) (now later new : List (K × X)) (is : K × X → Bool) → entries m ≡ now → entries n ≡ later
    → IsPermutation (new ++ filter (λ e. not (is e)) now) later → IsPermutation (new ++ filter (λ e. not (is e)) (entries m)) (entries n)
moved m n now later new is was will written =
    subst (λ l. IsPermutation (new ++ filter (λ e. not (is e)) l) (entries n)) (sym was) (subst (IsPermutation (new ++ filter (λ e. not (is e)) now)) (sym will) written)

module _ (laws : FollowTrips) (trips : FinMap name_cmp TripRow) (rows : List Row) (order : List ℕ) where
  journeys-removed : IsPermutation rows (rows_in journey_columns (journeys_of trips)) → IsPermutation (filter (λ row. not (has_key the.Journey (name_key order) row)) rows) (rows_in journey_columns (journeys_of (remove trips order)))
  journeys-removed =
      rows-kept journey_columns (journeys_of trips) (journeys_of (remove trips order)) (has_key the.Journey (name_key order)) (is_journey_of order) (journey_order_tested order)
      (laws.journeys_listed (remove trips order) ∙ laws.journeys_removed trips order ∙ ap (filter (λ row. not (is_journey_of order row))) (sym (laws.journeys_listed trips))) rows

  acts-removed : IsPermutation rows (rows_in act_columns (acts_of trips)) → IsPermutation (filter (λ row. not (has_columns (columns_deleted the.Act) (name_key order) row)) rows) (rows_in act_columns (acts_of (remove trips order)))
  acts-removed =
      rows-kept act_columns (acts_of trips) (acts_of (remove trips order)) (has_columns (columns_deleted the.Act) (name_key order)) (is_of order) (act_order_tested order)
      (laws.acts_listed (remove trips order) ∙ laws.acts_removed trips order ∙ ap (filter (λ row. not (is_of order row))) (sym (laws.acts_listed trips))) rows

  module _ (trip : TripRow) where
    journeys-written : IsPermutation rows (rows_in journey_columns (journeys_of trips))
        → IsPermutation (journey_columns order (journey_of trip) ∷ filter (λ row. not (has_key the.Journey (name_key order) row)) rows) (rows_in journey_columns (journeys_of (insert trips order trip)))
    journeys-written =
        rows-kept-more journey_columns (journeys_of trips) (journeys_of (insert trips order trip)) (has_key the.Journey (name_key order)) (is_journey_of order) (journey_order_tested order) ((order, journey_of trip) ∷ [])
        (moved (journeys_of trips) (journeys_of (insert trips order trip)) (journey_rows trips) (journey_rows (insert trips order trip)) ((order, journey_of trip) ∷ []) (is_journey_of order)
        (laws.journeys_listed trips) (laws.journeys_listed (insert trips order trip)) (laws.journeys_written trips order trip)) rows

    acts-written : IsPermutation rows (rows_in act_columns (acts_of trips))
        → IsPermutation (rows_of_acts (act_rows order trip) ++ filter (λ row. not (has_columns (columns_deleted the.Act) (name_key order) row)) rows) (rows_in act_columns (acts_of (insert trips order trip)))
    acts-written =
        rows-kept-more act_columns (acts_of trips) (acts_of (insert trips order trip)) (has_columns (columns_deleted the.Act) (name_key order)) (is_of order) (act_order_tested order) (act_rows order trip)
        (moved (acts_of trips) (acts_of (insert trips order trip)) (all_act_rows trips) (all_act_rows (insert trips order trip)) (act_rows order trip) (is_of order)
        (laws.acts_listed trips) (laws.acts_listed (insert trips order trip)) (laws.acts_written trips order trip)) rows

-- ---- sets

member-written : {K : Type 0} {R : K → K → Ordering} (total : IsTotalOrder R) (apart : IsAntisymmetric R) (columns : K → Row) (has : K → Row → Bool)
    → ((k q : K) → has k (columns q) ≡ eq_by_cmp R k q) → (s : set.FinSet R) (rows : List Row) (k : K) → IsPermutation rows (rows_for columns s)
    → IsPermutation (columns k ∷ filter (λ row. not (has k row)) rows) (rows_for columns (set.insert s k))
member-written total apart columns has tested s rows k h =
    subst (λ m. IsPermutation (columns k ∷ filter (λ row. not (has k row)) rows) (rows_in (λ key nothing. columns key) m)) (marked-insert total apart s k)
    (row-written total apart (λ key nothing. columns key) has (λ k q x. tested k q) (marked s) rows k tt h)

-- ---- each change

pub follows : FollowTrips → (lists : List (List Row)) (maps : Maps) (one : Change) → TellRows lists maps → TellRows (listed one lists) (change maps one)
unfolding row_lists
follows laws lists maps (row.Node id) h = put-alike the.Node (name_key id) (node_columns id) _ lists (row_lists maps) h
    (member-written nat_list_cmp_total names_apart node_columns (λ k. has_key the.Node (name_key k)) node_tested maps.nodes (table_at 1 lists) id)
follows laws lists maps (row.Edge id ends) h = put-alike the.Edge (name_key id) (edge_columns id ends) _ lists (row_lists maps) h
    (row-written nat_list_cmp_total names_apart edge_columns (λ k. has_key the.Edge (name_key k)) edge_tested maps.edges (table_at 2 lists) id ends)
follows laws lists maps (row.Station id site) h = put-alike the.Station (name_key id) (station_columns id site) _ lists (row_lists maps) h
    (row-written nat_list_cmp_total names_apart station_columns (λ k. has_key the.Station (name_key k)) station_tested maps.stations (table_at 3 lists) id site)
follows laws lists maps (row.Vehicle key vehicle) h = put-alike the.Capacity (vehicle_key key) (vehicle_capacity_columns key vehicle) _ _ _
    (put-alike the.Vehicle (vehicle_key key) (vehicle_columns key vehicle) _ lists (row_lists maps) h
    (row-written key_cmp-total key_cmp-IsAntisymmetric vehicle_columns (λ k. has_key the.Vehicle (vehicle_key k)) vehicle_tested maps.vehicles (table_at 4 lists) key vehicle))
    (row-written key_cmp-total key_cmp-IsAntisymmetric vehicle_capacity_columns (λ k. has_key the.Capacity (vehicle_key k)) capacity_tested maps.vehicles _ key vehicle)
follows laws lists maps (row.Trip order None) h = on_table-alike 13 _ _ _ _
    (removed-alike the.Journey (name_key order) _ lists (row_lists maps) h (journeys-removed laws maps.trips (table_at 12 lists) order))
    (acts-removed laws maps.trips _ order)
follows laws lists maps (row.Trip order (Some trip)) h = renewed-alike the.Act (columns_deleted the.Act) (name_key order) (rows_of_acts (act_rows order trip)) _ _ _
    (put-alike the.Journey (name_key order) (journey_columns order (journey_of trip)) _ lists (row_lists maps) h (journeys-written laws maps.trips (table_at 12 lists) order trip))
    (acts-written laws maps.trips _ order trip)
follows laws lists maps (row.Leg key None) h = removed-alike the.Leg (leg_key key) _ lists (row_lists maps) h
    (row-removed leg_cmp-total leg_cmp-IsAntisymmetric leg_columns (λ k. has_key the.Leg (leg_key k)) leg_tested maps.legs (table_at 6 lists) key)
follows laws lists maps (row.Leg key (Some edge)) h = put-alike the.Leg (leg_key key) (leg_columns key edge) _ lists (row_lists maps) h
    (row-written leg_cmp-total leg_cmp-IsAntisymmetric leg_columns (λ k. has_key the.Leg (leg_key k)) leg_tested maps.legs (table_at 6 lists) key edge)
follows laws lists maps (row.Load id place) h = put-alike the.Load (name_key id) (load_columns id place) _ lists (row_lists maps) h
    (row-written nat_list_cmp_total names_apart load_columns (λ k. has_key the.Load (name_key k)) load_tested maps.loads (table_at 7 lists) id place)
follows laws lists maps (row.Job id job) h = put-alike the.Job (name_key id) (job_columns id job) _ lists (row_lists maps) h
    (row-written nat_list_cmp_total names_apart job_columns (λ k. has_key the.Job (name_key k)) job_tested maps.jobs (table_at 8 lists) id job)
follows laws lists maps (row.Hold thing None) h = removed-alike the.Hold (hold_key thing) _ lists (row_lists maps) h
    (row-removed thing_cmp-total thing_cmp-IsAntisymmetric hold_columns (λ k. has_key the.Hold (hold_key k)) hold_tested maps.holds (table_at 9 lists) thing)
follows laws lists maps (row.Hold thing (Some key)) h = put-alike the.Hold (hold_key thing) (hold_columns thing key) _ lists (row_lists maps) h
    (row-written thing_cmp-total thing_cmp-IsAntisymmetric hold_columns (λ k. has_key the.Hold (hold_key k)) hold_tested maps.holds (table_at 9 lists) thing key)
follows laws lists maps (row.Used key) h = put-alike the.Used (used_columns key) (used_columns key) _ lists (row_lists maps) h
    (member-written use_cmp-total use_cmp-IsAntisymmetric used_columns (λ k. has_key the.Used (used_columns k)) used_tested maps.used (table_at 10 lists) key)

-- all changes, one after the other
pub follows_all : FollowTrips → (changes : List Change) (lists : List (List Row)) (maps : Maps) → TellRows lists maps → TellRows (listed_all changes lists) (changed changes maps)
unfolding listed_all changed
follows_all laws [] lists maps h = h
follows_all laws (one ∷ changes) lists maps h = follows_all laws changes (listed one lists) (change maps one) (follows laws lists maps one h)

-- ---- changes in turn

pub listed_in_turn : (first later : List Change) (lists : List (List Row)) → listed_all (first ++ later) lists ≡ listed_all later (listed_all first lists)
unfolding listed_all
listed_in_turn [] later lists = refl
listed_in_turn (one ∷ first) later lists = listed_in_turn first later (listed one lists)
