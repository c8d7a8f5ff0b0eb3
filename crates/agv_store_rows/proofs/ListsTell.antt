-- Lists tell the maps of one world alone, where each act of a trip has the load and the station of its job.
use Rattle.std.proofs.Common.{◌≡◌, ℕ, zero, suc, Bool, List, [], ◌∷◌, filter, Some, Ordering, IsPermutation, refl, sym, subst}
use Rattle.std.proofs.lemmas.List.Sorted.{IsPermutation-refl, IsPermutation-sym, IsPermutation-trans}
use Rattle.std.specs.Cmp.{IsTotalOrder, nat_cmp_total}
use Rattle.std.specs.Cmp.Lexicographic.{nat_list_cmp_total}
use Rattle.std.specs.FinMap as finite
use Rattle.std.specs.FinMap.{IsAntisymmetric, nat_cmp-IsAntisymmetric}
use Rattle.std.specs.FinSet as set
use Rattle.std.specs.List.{AllByRecursion}
use Rattle.std.specs.Ordering.{eq_by_cmp}
use Rattle.sqlite_value.specs.Order.{Row}
use Rattle.agv_header.specs.KeyOrder.{key_cmp-total, key_cmp-IsAntisymmetric}
use Rattle.agv_header.specs.Name.{name_cmp}
use Rattle.agv_header.specs.ThingOrder.{thing_cmp-total, thing_cmp-IsAntisymmetric}
use Rattle.agv_store_rows.specs.ActKeys.{act_cmp-total, act_cmp-IsAntisymmetric}
use Rattle.agv_store_rows.specs.TripRows.{acts_of, journeys_of}
use Rattle.agv_store_rows.specs.TripsTold.{IsOfJob}
use Rattle.agv_world_core.specs.KeyOrders.{leg_cmp-total, leg_cmp-IsAntisymmetric, use_cmp-total, use_cmp-IsAntisymmetric}
use Rattle.agv_world_core.specs.Maps.{Maps}
use Rattle.agv_world_core.specs.declared.row.JobRow.{JobRow}
use Rattle.agv_store_rows.specs.ValueEncodings.{number_cell}
use Rattle.agv_store_rows.specs.Columns.{meta_columns, node_columns, edge_columns, station_columns, vehicle_columns, vehicle_capacity_columns, journey_columns, act_columns, leg_columns, load_columns, job_columns, hold_columns, used_columns}
use Rattle.agv_store_schema.specs.DeskRows.{table_at, has_key}
use Rattle.agv_store_rows.specs.RowKeys.{name_key, vehicle_key, act_row_key, leg_key, hold_key}
use Rattle.agv_store_rows.specs.Rows.{ActsAreOfJobs, AreAlike, TellRows, marked, row_lists, rows_for, rows_in}
use Rattle.agv_store_schema.specs.declared.table_name.TableName.TheVariants as the
use Rattle.agv_store_rows.proofs.ColumnsTell.{meta_tells, edge_tells, station_tells, capacity_tells, vehicle_tells, journey_tells, act_tells, leg_tells, load_tells, job_tells, hold_tells}
use Rattle.agv_store_rows.proofs.KeyedRows.{one_row, one_table, row-found, rows_at, same_row}
use Rattle.agv_store_rows.proofs.TripRowLaws.{TellOneTable}
use Rattle.agv_store_rows.proofs.KeyTests.{act_tested, capacity_tested, journey_tested, meta_tested, names_apart, node_tested, edge_tested, station_tested, vehicle_tested, leg_tested, load_tested, job_tested, hold_tested, used_tested}
use Rattle.agv_store_rows.proofs.Members.{same_marked}

-- lists that are alike are alike at each place
pub alike_at : (at : ℕ) (lists others : List (List Row)) → AreAlike lists others → IsPermutation (table_at at lists) (table_at at others)
alike_at at [] [] h = IsPermutation-refl []
alike_at at [] (ys ∷ others) h = absurd h
alike_at at (xs ∷ lists) [] h = absurd h
alike_at zero (xs ∷ lists) (ys ∷ others) h = h.0
alike_at (suc at) (xs ∷ lists) (ys ∷ others) h = alike_at at lists others h.1

one_set : {K : Type 0} {R : K → K → Ordering} (total : IsTotalOrder R) (apart : IsAntisymmetric R) (columns : K → Row) (has : K → Row → Bool)
    → ((k q : K) → has k (columns q) ≡ eq_by_cmp R k q) → (s t : set.FinSet R) (rows : List Row) → IsPermutation rows (rows_for columns s) → IsPermutation rows (rows_for columns t) → s ≡ t
one_set total apart columns has tested s t rows h g =
    same_marked total apart s t (one_table total apart (λ key nothing. columns key) has (λ k q x. tested k q) (marked s) (marked t) rows h g (λ k x y _ _ _. refl))

-- rows of which a map has one at a key have the columns of that one, whichever map has them
same_columns : {K X : Type 0} {R : K → K → Ordering} (total : IsTotalOrder R) (apart : IsAntisymmetric R) (columns : K → X → Row) (has : K → Row → Bool)
    → ((k q : K) (x : X) → has k (columns q x) ≡ eq_by_cmp R k q) → (m n : finite.FinMap R X) (rows : List Row) → IsPermutation rows (rows_in columns m) → IsPermutation rows (rows_in columns n)
    → (k : K) (x y : X) → finite.get m k ≡ Some x → finite.get n k ≡ Some y → columns k x ≡ columns k y
same_columns total apart columns has tested m n rows h g k x y at there =
    let first = subst (λ o. IsPermutation (filter (has k) rows) (rows_at (one_row columns) k o)) at (row-found total apart columns has tested m rows k h) in
    let second = subst (λ o. IsPermutation (filter (has k) rows) (rows_at (one_row columns) k o)) there (row-found total apart columns has tested n rows k g) in
    same_row _ _ (IsPermutation-trans _ _ _ (IsPermutation-sym _ _ first) second)

-- ---- trips

-- journeys, acts and jobs of two worlds are the same: so are the trips
same_trips : TellOneTable → (a b : Maps) → ActsAreOfJobs a → ActsAreOfJobs b → journeys_of a.trips ≡ journeys_of b.trips → acts_of a.trips ≡ acts_of b.trips → a.jobs ≡ b.jobs → a.trips ≡ b.trips
same_trips one a b known other_known journeys acts jobs =
    one (journeys_of a.trips) (acts_of a.trips) a.jobs a.trips b.trips
    (record { has_journeys = refl; has_acts = refl; of_jobs = known })
    (record {
      has_journeys = journeys;
      has_acts = acts;
      of_jobs = λ order trip at. subst (λ (table : finite.FinMap name_cmp JobRow). AllByRecursion (IsOfJob table) trip.acts) (sym jobs) (other_known order trip at);
    })

-- ---- all tables

pub one_rows : TellOneTable → (lists : List (List Row)) (a b : Maps) → ActsAreOfJobs a → ActsAreOfJobs b → TellRows lists a → TellRows lists b → a ≡ b
unfolding row_lists
one_rows one lists a b known other_known h g =
    let meta = one_table nat_cmp_total nat_cmp-IsAntisymmetric meta_columns (λ k. has_key the.Meta (number_cell k ∷ [])) meta_tested a.meta b.meta (table_at 0 lists)
    (alike_at 0 lists (row_lists a) h) (alike_at 0 lists (row_lists b) g) (λ k x y _ _. meta_tells k x y) in
    let nodes = one_set nat_list_cmp_total names_apart node_columns (λ k. has_key the.Node (name_key k)) node_tested a.nodes b.nodes (table_at 1 lists)
    (alike_at 1 lists (row_lists a) h) (alike_at 1 lists (row_lists b) g) in
    let edges = one_table nat_list_cmp_total names_apart edge_columns (λ k. has_key the.Edge (name_key k)) edge_tested a.edges b.edges (table_at 2 lists)
    (alike_at 2 lists (row_lists a) h) (alike_at 2 lists (row_lists b) g) (λ k x y _ _. edge_tells k x y) in
    let stations = one_table nat_list_cmp_total names_apart station_columns (λ k. has_key the.Station (name_key k)) station_tested a.stations b.stations (table_at 3 lists)
    (alike_at 3 lists (row_lists a) h) (alike_at 3 lists (row_lists b) g) (λ k x y _ _. station_tells k x y) in
    let capacities = same_columns key_cmp-total key_cmp-IsAntisymmetric vehicle_capacity_columns (λ k. has_key the.Capacity (vehicle_key k)) capacity_tested a.vehicles b.vehicles (table_at 11 lists)
    (alike_at 11 lists (row_lists a) h) (alike_at 11 lists (row_lists b) g) in
    let vehicles = one_table key_cmp-total key_cmp-IsAntisymmetric vehicle_columns (λ k. has_key the.Vehicle (vehicle_key k)) vehicle_tested a.vehicles b.vehicles (table_at 4 lists)
    (alike_at 4 lists (row_lists a) h) (alike_at 4 lists (row_lists b) g) (λ k x y at there. vehicle_tells k x y (capacity_tells k x y (capacities k x y at there))) in
    let legs = one_table leg_cmp-total leg_cmp-IsAntisymmetric leg_columns (λ k. has_key the.Leg (leg_key k)) leg_tested a.legs b.legs (table_at 6 lists)
    (alike_at 6 lists (row_lists a) h) (alike_at 6 lists (row_lists b) g) (λ k x y _ _. leg_tells k x y) in
    let loads = one_table nat_list_cmp_total names_apart load_columns (λ k. has_key the.Load (name_key k)) load_tested a.loads b.loads (table_at 7 lists)
    (alike_at 7 lists (row_lists a) h) (alike_at 7 lists (row_lists b) g) (λ k x y _ _. load_tells k x y) in
    let jobs = one_table nat_list_cmp_total names_apart job_columns (λ k. has_key the.Job (name_key k)) job_tested a.jobs b.jobs (table_at 8 lists)
    (alike_at 8 lists (row_lists a) h) (alike_at 8 lists (row_lists b) g) (λ k x y _ _. job_tells k x y) in
    let holds = one_table thing_cmp-total thing_cmp-IsAntisymmetric hold_columns (λ k. has_key the.Hold (hold_key k)) hold_tested a.holds b.holds (table_at 9 lists)
    (alike_at 9 lists (row_lists a) h) (alike_at 9 lists (row_lists b) g) (λ k x y _ _. hold_tells k x y) in
    let used = one_set use_cmp-total use_cmp-IsAntisymmetric used_columns (λ k. has_key the.Used (used_columns k)) used_tested a.used b.used (table_at 10 lists)
    (alike_at 10 lists (row_lists a) h) (alike_at 10 lists (row_lists b) g) in
    let journeys = one_table nat_list_cmp_total names_apart journey_columns (λ k. has_key the.Journey (name_key k)) journey_tested (journeys_of a.trips) (journeys_of b.trips) (table_at 12 lists)
    (alike_at 12 lists (row_lists a) h) (alike_at 12 lists (row_lists b) g) (λ k x y _ _. journey_tells k x y) in
    let acts = one_table act_cmp-total act_cmp-IsAntisymmetric act_columns (λ k. has_key the.Act (act_row_key k)) act_tested (acts_of a.trips) (acts_of b.trips) (table_at 13 lists)
    (alike_at 13 lists (row_lists a) h) (alike_at 13 lists (row_lists b) g) (λ k x y _ _. act_tells k x y) in
    let trips = same_trips one a b known other_known journeys acts jobs in
    λ i. record {
      meta = meta i;
      nodes = nodes i;
      edges = edges i;
      stations = stations i;
      vehicles = vehicles i;
      trips = trips i;
      legs = legs i;
      loads = loads i;
      jobs = jobs i;
      holds = holds i;
      used = used i;
    }
