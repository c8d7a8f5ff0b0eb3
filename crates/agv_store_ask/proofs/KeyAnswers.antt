-- What the rows of a key answer, in a lawful world.
use Rattle.std.proofs.Common.{◌≡◌, ℕ, Bool, true, false, not, cond, ◌==◌, List, [], ◌∷◌, length, Option, None, Some, Ok, Result, IsPermutation, refl, sym, ap, ap₂, subst, ◌∙◌}
use Rattle.std.proofs.lemmas.List.Sorted.{length_permutation}
use Rattle.std.proofs.lemmas.Option.{same_Some}
use Rattle.std.specs.FinMap as finite
use Rattle.std.specs.FinSet as set
use Rattle.std.specs.Option.{option_map}
use Rattle.sqlite.proofs.Callers.{one_permutation}
use Rattle.sqlite_value.specs.Order.{Row}
use Rattle.agv_header.specs.declared.key.Thing.{Thing}
use Rattle.agv_header.specs.declared.key.Thing.TheVariants as thing
use Rattle.agv_header.specs.declared.key.VehicleKey.{VehicleKey}
use Rattle.agv_layout.specs.declared.edge.EdgeEnds.{EdgeEnds}
use Rattle.agv_layout.specs.declared.station.StationSite.{StationSite}
use Rattle.agv_stock.specs.declared.place.Place.{Place}
use Rattle.agv_world_core.specs.Lawful.{IsLawful}
use Rattle.agv_world_core.specs.Questions.{holder_of, is_used, row_of}
use Rattle.agv_world_core.specs.Maps.{maps_of}
use Rattle.agv_world_core.specs.Worlds.{World}
use Rattle.agv_world_core.specs.declared.key.UseKey.{UseKey}
use Rattle.agv_world_core.specs.declared.row.JobRow.{JobRow}
use Rattle.agv_world_core.specs.declared.row.VehicleRow.{VehicleRow}
use Rattle.agv_store_rows.specs.Columns.{capacity_in, edge_columns, edge_in, hold_columns, hold_in, job_columns, job_in, load_columns, load_in, node_columns, vehicle_capacity_columns, station_columns, station_in, used_columns, vehicle_columns, vehicle_in}
use Rattle.agv_store_schema.specs.DeskRows.{rows_of_key, table_for}
use Rattle.agv_store_read.specs.FirstRow.{first_in, value_of}
use Rattle.agv_store_rows.specs.RowKeys.{hold_key, name_key, vehicle_key}
use Rattle.agv_store_rows.specs.Rows.{TellRows, row_if, rows_of}
use Rattle.agv_store_sql.specs.RowQueries.{FitsColumns}
use Rattle.agv_store_schema.specs.SchemaNumbers.{desk_seats}
use Rattle.agv_store_rows.specs.TypedRows.{IsThing}
use Rattle.agv_store_read.specs.declared.open_fault.OpenFault.{OpenFault}
use Rattle.agv_store_rows.specs.declared.capacity_row.CapacityRow.{CapacityRow}
use Rattle.agv_store_schema.specs.declared.table_name.TableName.TheVariants as the
use Rattle.agv_store_read.proofs.Asking.{Follows}
use Rattle.agv_store_rows.proofs.ColumnsKept.{capacity_kept, edge_kept, station_kept, vehicle_kept, load_kept, job_kept, hold_kept}
use Rattle.agv_store_ask.proofs.KeysShown.{capacity_shown, edge_shown, hold_shown, job_shown, load_shown, node_shown, station_shown, used_shown, vehicle_shown}
use Rattle.agv_store_rows.proofs.LawfulValues.{edge_named, ends_value, holder_value, job_value, place_value, row_at, site_value, station_named, used_is, vehicle_value}
use Rattle.agv_store_rows.proofs.ListsHeld.{alike_itself}

-- ---- rows of a key

none_left : (rows : List Row) → IsPermutation [] rows → rows ≡ []
none_left [] h = refl
none_left (row ∷ rows) h = absurd (cc (length_permutation _ _ h))

-- rows that are those of one entry at most, in some order
pub only : {X : Type 0} (columns : X → Row) (o : Option X) (rows : List Row) → IsPermutation (row_if columns o) rows → rows ≡ row_if columns o
only columns None rows h = none_left rows h
only columns (Some x) rows h = one_permutation (columns x) rows h

-- what the row of an entry tells is a part of the entry
first_part : {K X Y : Type 0} (told : Row → Option (K × Y)) (columns : X → Row) (k : K) (part : X → Y) (o : Option X) → ((x : X) → o ≡ Some x → told (columns x) ≡ Some (k, part x)) → first_in told (row_if columns o) ≡ Ok (option_map part o)
first_part told columns k part None back = refl
first_part told columns k part (Some x) back = ap value_of (back x refl)

first_found : {K X : Type 0} (told : Row → Option (K × X)) (columns : X → Row) (k : K) (o : Option X) → ((x : X) → o ≡ Some x → told (columns x) ≡ Some (k, x)) → first_in told (row_if columns o) ≡ Ok o
first_found told columns k None back = refl
first_found told columns k (Some x) back = ap value_of (back x refl)

tells_first : {K X Y : Type 0} (told : Row → Option (K × Y)) (columns : X → Row) (o : Option X) (answer : Option Y) → first_in told (row_if columns o) ≡ Ok answer
    → (asked rows : List Row) → asked ≡ row_if columns o → IsPermutation asked rows → (r : Result (Option Y) OpenFault) → r ≡ first_in told rows → Follows r (λ y. y ≡ answer)
tells_first told columns o answer first asked rows is shown r given =
    let alone = only columns o rows (subst (λ a. IsPermutation a rows) is shown) in
    let so : r ≡ Ok answer = given ∙ ap (first_in told) alone ∙ first in
    subst (λ q. Follows q (λ y. y ≡ answer)) (sym so) refl

module _ {K X : Type 0} (told : Row → Option (K × X)) (columns : X → Row) (k : K) (o : Option X) (back : (x : X) → o ≡ Some x → told (columns x) ≡ Some (k, x)) where
  pub tells_it : (asked rows : List Row) → asked ≡ row_if columns o → IsPermutation asked rows → (r : Result (Option X) OpenFault) → r ≡ first_in told rows → Follows r (λ x. x ≡ o)
  tells_it = tells_first told columns o o (first_found told columns k o back)

module _ {K X Y : Type 0} (told : Row → Option (K × Y)) (columns : X → Row) (k : K) (part : X → Y) (o : Option X) (back : (x : X) → o ≡ Some x → told (columns x) ≡ Some (k, part x)) where
  tells_part : (asked rows : List Row) → asked ≡ row_if columns o → IsPermutation asked rows → (r : Result (Option Y) OpenFault) → r ≡ first_in told rows → Follows r (λ y. y ≡ option_map part o)
  tells_part = tells_first told columns o (option_map part o) (first_part told columns k part o back)

tested : (rows : List Row) (row : Row) (b : Bool) → IsPermutation (cond b (row ∷ []) []) rows → not (length rows == 0) ≡ b
tested rows row true h = ap (λ n. not (n == 0)) (length_permutation _ _ h)
tested rows row false h = ap (λ n. not (n == 0)) (length_permutation _ _ h)

-- ---- the queries

-- the vehicle as if its capacity was 1, and its capacity
abbrev single : VehicleRow → VehicleRow
single row = record row { capacity = 1 }

abbrev capacity_row_of : VehicleRow → CapacityRow
capacity_row_of row = record { capacity = row.capacity }

-- both are there, or neither is
pub neither : (o : Option VehicleRow) → None ≡ option_map single o → None ≡ o
neither None none = refl
neither (Some row) none = absurd (cc none)

pub not_one : (o : Option VehicleRow) (vehicle : VehicleRow) → Some vehicle ≡ option_map single o → ¬ (None ≡ option_map capacity_row_of o)
not_one None vehicle one none = cc one
not_one (Some row) vehicle one none = cc none

-- and both are the row
pub joined : (o : Option VehicleRow) (vehicle : VehicleRow) (capacity : CapacityRow) → Some vehicle ≡ option_map single o → Some capacity ≡ option_map capacity_row_of o → Some (record vehicle { capacity = capacity.capacity }) ≡ o
joined None vehicle capacity one two = absurd (cc one)
joined (Some row) vehicle capacity one two =
    let same : vehicle ≡ single row = same_Some _ _ one in
    let same_capacity : capacity ≡ capacity_row_of row = same_Some _ _ two in
    ap₂ (λ (v : VehicleRow) (r : CapacityRow). Some (record v { capacity = r.capacity })) same same_capacity

-- the key of what is held is of the kinds of its columns
pub fits_hold : (thing : Thing) → FitsColumns the.Hold (table_for the.Hold).primary (hold_key thing)
fits_hold (thing.Node id) = refl
fits_hold (thing.Edge id) = refl

module _ (world : World) (lawful : IsLawful desk_seats world) where
  abbrev lists : List (List Row)
  lists = rows_of world

  its_own : TellRows lists (maps_of world)
  its_own = alike_itself lists

  pub tells_place : (id : List ℕ) (key : Row) → key ≡ name_key id → (rows : List Row) → IsPermutation (rows_of_key the.Load key lists) rows
      → (r : Result (Option Place) OpenFault) → r ≡ first_in load_in rows → Follows r (λ where_is. where_is ≡ finite.get world.places id)
  tells_place id key is rows shown =
      tells_it load_in (load_columns id) id (finite.get world.places id) (λ where_is at. load_kept id where_is (lawful.names.loads_named id where_is at) (place_value world lawful id where_is at))
      (rows_of_key the.Load key lists) rows (ap (λ k. rows_of_key the.Load k lists) is ∙ load_shown lists (maps_of world) its_own id) shown

  pub tells_job : (id : List ℕ) (key : Row) → key ≡ name_key id → (rows : List Row) → IsPermutation (rows_of_key the.Job key lists) rows
      → (r : Result (Option JobRow) OpenFault) → r ≡ first_in job_in rows → Follows r (λ job. job ≡ finite.get world.jobs id)
  tells_job id key is rows shown =
      tells_it job_in (job_columns id) id (finite.get world.jobs id) (λ job at. job_kept id job (lawful.names.jobs_named id job at) (job_value world lawful id job at))
      (rows_of_key the.Job key lists) rows (ap (λ k. rows_of_key the.Job k lists) is ∙ job_shown lists (maps_of world) its_own id) shown

  pub tells_station : (id : List ℕ) (key : Row) → key ≡ name_key id → (rows : List Row) → IsPermutation (rows_of_key the.Station key lists) rows
      → (r : Result (Option StationSite) OpenFault) → r ≡ first_in station_in rows → Follows r (λ site. site ≡ finite.get world.layout.stations id)
  tells_station id key is rows shown =
      tells_it station_in (station_columns id) id (finite.get world.layout.stations id) (λ site at. station_kept id site (station_named world lawful id site at) (site_value world lawful id site at))
      (rows_of_key the.Station key lists) rows (ap (λ k. rows_of_key the.Station k lists) is ∙ station_shown lists (maps_of world) its_own id) shown

  pub tells_ends : (id : List ℕ) (key : Row) → key ≡ name_key id → (rows : List Row) → IsPermutation (rows_of_key the.Edge key lists) rows
      → (r : Result (Option EdgeEnds) OpenFault) → r ≡ first_in edge_in rows → Follows r (λ ends. ends ≡ finite.get world.layout.edges id)
  tells_ends id key is rows shown =
      tells_it edge_in (edge_columns id) id (finite.get world.layout.edges id) (λ ends at. edge_kept id ends (edge_named world lawful id ends at) (ends_value world lawful id ends at))
      (rows_of_key the.Edge key lists) rows (ap (λ k. rows_of_key the.Edge k lists) is ∙ edge_shown lists (maps_of world) its_own id) shown

  -- its row, as if its capacity was 1
  pub tells_vehicle : (id : VehicleKey) (key : Row) → key ≡ vehicle_key id → (rows : List Row) → IsPermutation (rows_of_key the.Vehicle key lists) rows
      → (r : Result (Option VehicleRow) OpenFault) → r ≡ first_in vehicle_in rows → Follows r (λ row. row ≡ option_map single (row_of world id))
  tells_vehicle id key is rows shown =
      tells_part vehicle_in (vehicle_columns id) id single (row_of world id) (λ row at. let its = vehicle_value world lawful id row at in vehicle_kept id row its.0 its.1)
      (rows_of_key the.Vehicle key lists) rows (ap (λ k. rows_of_key the.Vehicle k lists) is ∙ vehicle_shown lists (maps_of world) its_own id ∙ ap (row_if (vehicle_columns id)) (row_at world id)) shown

  -- its capacity
  pub tells_capacity : (id : VehicleKey) (key : Row) → key ≡ vehicle_key id → (rows : List Row) → IsPermutation (rows_of_key the.Capacity key lists) rows
      → (r : Result (Option CapacityRow) OpenFault) → r ≡ first_in capacity_in rows → Follows r (λ capacity. capacity ≡ option_map capacity_row_of (row_of world id))
  tells_capacity id key is rows shown =
      tells_part capacity_in (vehicle_capacity_columns id) id capacity_row_of (row_of world id) (λ row at. let its = vehicle_value world lawful id row at in capacity_kept id (capacity_row_of row) its.0 its.1.capacity)
      (rows_of_key the.Capacity key lists) rows (ap (λ k. rows_of_key the.Capacity k lists) is ∙ capacity_shown lists (maps_of world) its_own id ∙ ap (row_if (vehicle_capacity_columns id)) (row_at world id)) shown

  pub tells_holder : (thing : Thing) → IsThing thing → (key : Row) → key ≡ hold_key thing → (rows : List Row) → IsPermutation (rows_of_key the.Hold key lists) rows
      → (r : Result (Option VehicleKey) OpenFault) → r ≡ first_in hold_in rows → Follows r (λ holder. holder ≡ holder_of world thing)
  unfolding holder_of
  tells_holder thing named key is rows shown =
      tells_it hold_in (hold_columns thing) thing (finite.get (maps_of world).holds thing) (λ holder at. hold_kept thing holder named (holder_value world lawful thing holder at))
      (rows_of_key the.Hold key lists) rows (ap (λ k. rows_of_key the.Hold k lists) is ∙ hold_shown lists (maps_of world) its_own thing) shown

  pub tells_node : (id : List ℕ) (key : Row) → key ≡ name_key id → (rows : List Row) → IsPermutation (rows_of_key the.Node key lists) rows → not (length rows == 0) ≡ set.contains world.layout.nodes id
  tells_node id key is rows shown =
      tested rows (node_columns id) (set.contains world.layout.nodes id) (subst (λ a. IsPermutation a rows) (ap (λ k. rows_of_key the.Node k lists) is ∙ node_shown lists (maps_of world) its_own id) shown)

  pub tells_used : (id : UseKey) (key : Row) → key ≡ used_columns id → (rows : List Row) → IsPermutation (rows_of_key the.Used key lists) rows → not (length rows == 0) ≡ is_used world id.kind id.name
  tells_used id key is rows shown =
      tested rows (used_columns id) (set.contains (maps_of world).used id) (subst (λ a. IsPermutation a rows) (ap (λ k. rows_of_key the.Used k lists) is ∙ used_shown lists (maps_of world) its_own id) shown)
      ∙ used_is world id.kind id.name
