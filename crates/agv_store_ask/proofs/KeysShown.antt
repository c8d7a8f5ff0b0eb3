-- The row of a key, in lists that tell the maps of a world.
use Rattle.std.proofs.Common.{◌≡◌, ℕ, Bool, true, false, cond, List, [], ◌∷◌, filter, Option, Some, None, Ordering, IsPermutation, refl, ap, subst, ◌∙◌}
use Rattle.std.proofs.lemmas.List.Sorted.{IsPermutation-sym, length_permutation}
use Rattle.std.specs.Cmp.{IsTotalOrder, nat_cmp_total}
use Rattle.std.specs.Cmp.Lexicographic.{nat_list_cmp_total}
use Rattle.std.specs.FinMap.{FinMap, IsAntisymmetric, get, nat_cmp-IsAntisymmetric}
use Rattle.std.specs.FinSet as set
use Rattle.std.specs.Ordering.{eq_by_cmp}
use Rattle.sqlite.proofs.Callers.{one_permutation}
use Rattle.sqlite_value.specs.Order.{Row}
use Rattle.agv_header.specs.KeyOrder.{key_cmp-total, key_cmp-IsAntisymmetric}
use Rattle.agv_header.specs.ThingOrder.{thing_cmp-total, thing_cmp-IsAntisymmetric}
use Rattle.agv_header.specs.declared.key.Thing.{Thing}
use Rattle.agv_header.specs.declared.key.VehicleKey.{VehicleKey}
use Rattle.agv_store_rows.specs.ActKeys.{act_cmp-total, act_cmp-IsAntisymmetric}
use Rattle.agv_store_rows.specs.TripRows.{acts_of, journeys_of}
use Rattle.agv_store_rows.specs.declared.act_key.ActKey.{ActKey}
use Rattle.agv_world_core.specs.KeyOrders.{leg_cmp-total, leg_cmp-IsAntisymmetric, use_cmp-total, use_cmp-IsAntisymmetric}
use Rattle.agv_world_core.specs.Maps.{Maps}
use Rattle.agv_world_core.specs.declared.key.LegKey.{LegKey}
use Rattle.agv_world_core.specs.declared.key.UseKey.{UseKey}
use Rattle.agv_store_rows.specs.ValueEncodings.{number_cell}
use Rattle.agv_store_rows.specs.Columns.{meta_columns, node_columns, edge_columns, station_columns, vehicle_columns, vehicle_capacity_columns, journey_columns, act_columns, leg_columns, load_columns, job_columns, hold_columns, used_columns}
use Rattle.agv_store_schema.specs.DeskRows.{has_key, rows_of_key, table_at}
use Rattle.agv_store_rows.specs.RowKeys.{name_key, vehicle_key, act_row_key, leg_key, hold_key}
use Rattle.agv_store_rows.specs.Rows.{ShowAll, TellRows, marked, row_if, row_lists, rows_for, rows_in}
use Rattle.agv_store_schema.specs.declared.table_name.TableName.TheVariants as the
use Rattle.agv_store_rows.proofs.KeyedRows.{rows-shown, one_row, row-found, rows_at}
use Rattle.agv_store_rows.proofs.KeyTests.{act_tested, capacity_tested, journey_tested, meta_tested, names_apart, node_tested, edge_tested, station_tested, vehicle_tested, leg_tested, load_tested, job_tested, hold_tested, used_tested}
use Rattle.agv_store_rows.proofs.ListsTell.{alike_at}
use Rattle.agv_store_rows.proofs.Members.{get-marked, mark}

-- at most one row is in no other order
none_left : (rows : List Row) → IsPermutation rows [] → rows ≡ []
none_left [] h = refl
none_left (row ∷ rows) h = absurd (cc (length_permutation _ _ h))

alone : {X : Type 0} (columns : X → Row) (o : Option X) (rows : List Row) → IsPermutation rows (row_if columns o) → rows ≡ row_if columns o
alone columns None rows h = none_left rows h
alone columns (Some x) rows h = one_permutation (columns x) rows (IsPermutation-sym _ _ h)

at_one : {K X : Type 0} (columns : K → X → Row) (k : K) (o : Option X) → rows_at (one_row columns) k o ≡ row_if (columns k) o
at_one columns k None = refl
at_one columns k (Some x) = refl

module _ {K X : Type 0} {R : K → K → Ordering} (total : IsTotalOrder R) (apart : IsAntisymmetric R) (columns : K → X → Row) (has : K → Row → Bool)
    (tested : (k q : K) (x : X) → has k (columns q x) ≡ eq_by_cmp R k q) where
  shown : (m : FinMap R X) (rows : List Row) (k : K) → IsPermutation rows (rows_in columns m) → filter (has k) rows ≡ row_if (columns k) (get m k)
  shown m rows k h = alone (columns k) (get m k) _ (subst (IsPermutation (filter (has k) rows)) (at_one columns k (get m k)) (row-found total apart columns has tested m rows k h))

of_mark : (row : Row) (b : Bool) → row_if (λ nothing. row) (mark b) ≡ cond b (row ∷ []) []
of_mark row true = refl
of_mark row false = refl

member_shown : {K : Type 0} {R : K → K → Ordering} (total : IsTotalOrder R) (apart : IsAntisymmetric R) (columns : K → Row) (has : K → Row → Bool)
    → ((k q : K) → has k (columns q) ≡ eq_by_cmp R k q) → (s : set.FinSet R) (rows : List Row) (k : K) → IsPermutation rows (rows_for columns s)
    → filter (has k) rows ≡ cond (set.contains s k) (columns k ∷ []) []
member_shown total apart columns has tested s rows k h =
    shown total apart (λ key nothing. columns key) has (λ k q x. tested k q) (marked s) rows k h ∙ ap (row_if (λ nothing. columns k)) (get-marked total s k) ∙ of_mark (columns k) (set.contains s k)

module _ (lists : List (List Row)) (maps : Maps) (told : TellRows lists maps) where
  pub meta_shown : (id : ℕ) → rows_of_key the.Meta (number_cell id ∷ []) lists ≡ row_if (meta_columns id) (get maps.meta id)
  unfolding row_lists
  meta_shown id = shown nat_cmp_total nat_cmp-IsAntisymmetric meta_columns (λ k. has_key the.Meta (number_cell k ∷ [])) meta_tested maps.meta (table_at 0 lists) id (alike_at 0 lists (row_lists maps) told)

  pub node_shown : (id : List ℕ) → rows_of_key the.Node (name_key id) lists ≡ cond (set.contains maps.nodes id) (node_columns id ∷ []) []
  unfolding row_lists
  node_shown id = member_shown nat_list_cmp_total names_apart node_columns (λ k. has_key the.Node (name_key k)) node_tested maps.nodes (table_at 1 lists) id (alike_at 1 lists (row_lists maps) told)

  pub edge_shown : (id : List ℕ) → rows_of_key the.Edge (name_key id) lists ≡ row_if (edge_columns id) (get maps.edges id)
  unfolding row_lists
  edge_shown id = shown nat_list_cmp_total names_apart edge_columns (λ k. has_key the.Edge (name_key k)) edge_tested maps.edges (table_at 2 lists) id (alike_at 2 lists (row_lists maps) told)

  pub station_shown : (id : List ℕ) → rows_of_key the.Station (name_key id) lists ≡ row_if (station_columns id) (get maps.stations id)
  unfolding row_lists
  station_shown id = shown nat_list_cmp_total names_apart station_columns (λ k. has_key the.Station (name_key k)) station_tested maps.stations (table_at 3 lists) id (alike_at 3 lists (row_lists maps) told)

  pub vehicle_shown : (key : VehicleKey) → rows_of_key the.Vehicle (vehicle_key key) lists ≡ row_if (vehicle_columns key) (get maps.vehicles key)
  unfolding row_lists
  vehicle_shown key =
      shown key_cmp-total key_cmp-IsAntisymmetric vehicle_columns (λ k. has_key the.Vehicle (vehicle_key k)) vehicle_tested maps.vehicles (table_at 4 lists) key (alike_at 4 lists (row_lists maps) told)

  pub capacity_shown : (key : VehicleKey) → rows_of_key the.Capacity (vehicle_key key) lists ≡ row_if (vehicle_capacity_columns key) (get maps.vehicles key)
  unfolding row_lists
  capacity_shown key =
      shown key_cmp-total key_cmp-IsAntisymmetric vehicle_capacity_columns (λ k. has_key the.Capacity (vehicle_key k)) capacity_tested maps.vehicles (table_at 11 lists) key (alike_at 11 lists (row_lists maps) told)

  pub journey_shown : (order : List ℕ) → rows_of_key the.Journey (name_key order) lists ≡ row_if (journey_columns order) (get (journeys_of maps.trips) order)
  unfolding row_lists
  journey_shown order =
      shown nat_list_cmp_total names_apart journey_columns (λ k. has_key the.Journey (name_key k)) journey_tested (journeys_of maps.trips) (table_at 12 lists) order (alike_at 12 lists (row_lists maps) told)

  pub act_shown : (key : ActKey) → rows_of_key the.Act (act_row_key key) lists ≡ row_if (act_columns key) (get (acts_of maps.trips) key)
  unfolding row_lists
  act_shown key = shown act_cmp-total act_cmp-IsAntisymmetric act_columns (λ k. has_key the.Act (act_row_key k)) act_tested (acts_of maps.trips) (table_at 13 lists) key (alike_at 13 lists (row_lists maps) told)

  pub leg_shown : (key : LegKey) → rows_of_key the.Leg (leg_key key) lists ≡ row_if (leg_columns key) (get maps.legs key)
  unfolding row_lists
  leg_shown key = shown leg_cmp-total leg_cmp-IsAntisymmetric leg_columns (λ k. has_key the.Leg (leg_key k)) leg_tested maps.legs (table_at 6 lists) key (alike_at 6 lists (row_lists maps) told)

  pub load_shown : (id : List ℕ) → rows_of_key the.Load (name_key id) lists ≡ row_if (load_columns id) (get maps.loads id)
  unfolding row_lists
  load_shown id = shown nat_list_cmp_total names_apart load_columns (λ k. has_key the.Load (name_key k)) load_tested maps.loads (table_at 7 lists) id (alike_at 7 lists (row_lists maps) told)

  pub job_shown : (id : List ℕ) → rows_of_key the.Job (name_key id) lists ≡ row_if (job_columns id) (get maps.jobs id)
  unfolding row_lists
  job_shown id = shown nat_list_cmp_total names_apart job_columns (λ k. has_key the.Job (name_key k)) job_tested maps.jobs (table_at 8 lists) id (alike_at 8 lists (row_lists maps) told)

  pub hold_shown : (thing : Thing) → rows_of_key the.Hold (hold_key thing) lists ≡ row_if (hold_columns thing) (get maps.holds thing)
  unfolding row_lists
  hold_shown thing = shown thing_cmp-total thing_cmp-IsAntisymmetric hold_columns (λ k. has_key the.Hold (hold_key k)) hold_tested maps.holds (table_at 9 lists) thing (alike_at 9 lists (row_lists maps) told)

  pub used_shown : (key : UseKey) → rows_of_key the.Used (used_columns key) lists ≡ cond (set.contains maps.used key) (used_columns key ∷ []) []
  unfolding row_lists
  used_shown key = member_shown use_cmp-total use_cmp-IsAntisymmetric used_columns (λ k. has_key the.Used (used_columns k)) used_tested maps.used (table_at 10 lists) key (alike_at 10 lists (row_lists maps) told)

-- ---- tests

module _ (lists : List (List Row)) (maps : Maps) (told : TellRows lists maps) where
  pub all_shown : ShowAll lists maps
  unfolding row_lists
  all_shown = record {
    nodes = rows-shown (λ id nothing. node_columns id) (marked maps.nodes) _ (alike_at 1 lists (row_lists maps) told);
    edges = rows-shown edge_columns maps.edges _ (alike_at 2 lists (row_lists maps) told);
    stations = rows-shown station_columns maps.stations _ (alike_at 3 lists (row_lists maps) told);
    vehicles = rows-shown vehicle_columns maps.vehicles _ (alike_at 4 lists (row_lists maps) told);
    trips = none_left _ (alike_at 5 lists (row_lists maps) told);
    legs = rows-shown leg_columns maps.legs _ (alike_at 6 lists (row_lists maps) told);
    loads = rows-shown load_columns maps.loads _ (alike_at 7 lists (row_lists maps) told);
    jobs = rows-shown job_columns maps.jobs _ (alike_at 8 lists (row_lists maps) told);
    holds = rows-shown hold_columns maps.holds _ (alike_at 9 lists (row_lists maps) told);
    used = rows-shown (λ key nothing. used_columns key) (marked maps.used) _ (alike_at 10 lists (row_lists maps) told);
    capacities = rows-shown vehicle_capacity_columns maps.vehicles _ (alike_at 11 lists (row_lists maps) told);
    journeys = rows-shown journey_columns (journeys_of maps.trips) _ (alike_at 12 lists (row_lists maps) told);
    acts = rows-shown act_columns (acts_of maps.trips) _ (alike_at 13 lists (row_lists maps) told);
  }
