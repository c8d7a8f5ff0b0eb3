-- The table of the capacities of vehicles, and vehicles that are told with their capacities.
use Rattle.std.proofs.Common.{◌≡◌, true, false, cond, List, [], ◌∷◌, map, Option, None, Some, Ok, IsPermutation, inl, inr, refl, sym, ap, subst, ◌∙◌}
use Rattle.std.proofs.lemmas.Map.Made.{keys_of-map_values}
use Rattle.std.proofs.lemmas.Option.{same_Some}
use Rattle.std.specs.FinMap as finite
use Rattle.std.specs.List.Sorted.{IsStrictlySortedBy}
use Rattle.std.specs.Option.{is_some, option_map}
use Rattle.std.specs.Ordering.{eq_by_cmp}
use Rattle.sqlite_trees.proofs.ListLemmas.{map-map}
use Rattle.sqlite_value.specs.Order.{Row}
use Rattle.agv_header.specs.Key.{key_cmp}
use Rattle.agv_header.specs.KeyOrder.{key_cmp-IsAntisymmetric, key_cmp-total}
use Rattle.agv_header.specs.declared.key.VehicleKey.{VehicleKey}
use Rattle.agv_store_rows.proofs.TripRowKeys.{rise_from_sorted, sorted_from_rise}
use Rattle.agv_world_core.specs.declared.row.VehicleRow.{VehicleRow}
use Rattle.agv_world_core.proofs.lists.EachEntry.{all-entries, each-entry}
use Rattle.agv_world_core.proofs.lists.InOrder.{entries-shown}
use Rattle.agv_world_core.proofs.lists.Puts.{put_cases}
use Rattle.agv_store_rows.specs.Columns.{capacity_columns, vehicle_capacity_columns, vehicle_columns, vehicle_in}
use Rattle.agv_store_rows.specs.DecodedTrips.{capacities_of, vehicle_with}
use Rattle.agv_store_rows.specs.Rows.{rows_in}
use Rattle.agv_store_rows.specs.ValueEncodings.{if_some}
use Rattle.agv_store_read.specs.TableChecks.{are_of_vehicles}
use Rattle.agv_store_read.specs.ReadTables.{if_free, read_rows}
use Rattle.agv_store_rows.specs.declared.capacity_row.CapacityRow.{CapacityRow}
use Rattle.agv_store_rows.proofs.ColumnsWritten.{vehicle_written}
use Rattle.agv_store_read.proofs.TablesBack.{shows_table}

abbrev Capacities : Type 0
Capacities = finite.FinMap key_cmp CapacityRow

abbrev Vehicles : Type 0
Vehicles = finite.FinMap key_cmp VehicleRow

abbrev capacity_row_of : VehicleRow → CapacityRow
capacity_row_of vehicle = record { capacity = vehicle.capacity }

-- ---- the capacities of a table of vehicles

found-capacities : (q : VehicleKey) (es : List (VehicleKey × VehicleRow)) → finite.find key_cmp q (map (λ (e : VehicleKey × VehicleRow). (e.0, capacity_row_of e.1)) es) ≡ option_map capacity_row_of (finite.find key_cmp q es)
found-capacities q [] = refl
found-capacities q (e ∷ es) =
    elim (eq_by_cmp key_cmp q e.0)
    as (λ b. cond b (Some (capacity_row_of e.1)) (finite.find key_cmp q (map (λ (f : VehicleKey × VehicleRow). (f.0, capacity_row_of f.1)) es)) ≡ option_map capacity_row_of (cond b (Some e.1) (finite.find key_cmp q es))) [
      | true ↦ refl
      | false ↦ found-capacities q es
    ]

pub get-capacities_of : (vehicles : Vehicles) (key : VehicleKey) → finite.get (capacities_of vehicles) key ≡ option_map capacity_row_of (finite.get vehicles key)
unfolding capacities_of
get-capacities_of vehicles key =
    finite.get-from_entries key_cmp-total _ key ∙ found-capacities key (finite.entries vehicles) ∙ ap (option_map capacity_row_of) (sym (finite.get-entries vehicles key))

entries-capacities_of : (vehicles : Vehicles) → finite.entries (capacities_of vehicles) ≡ map (λ (e : VehicleKey × VehicleRow). (e.0, capacity_row_of e.1)) (finite.entries vehicles)
unfolding capacities_of
entries-capacities_of vehicles =
    let sorted = sorted_from_rise key_cmp (finite.entries vehicles) (rise_from_sorted key_cmp (finite.entries vehicles) (finite.entries_sorted vehicles)) in
    entries-shown key_cmp-total key_cmp-IsAntisymmetric _ (subst (IsStrictlySortedBy key_cmp) (sym (keys_of-map_values capacity_row_of (finite.entries vehicles))) sorted)

-- each vehicle has its capacity there
pub capacity_known : (vehicles : Vehicles) (key : VehicleKey) (vehicle : VehicleRow) → finite.get vehicles key ≡ Some vehicle → finite.get (capacities_of vehicles) key ≡ Some (capacity_row_of vehicle)
capacity_known vehicles key vehicle at = get-capacities_of vehicles key ∙ ap (option_map capacity_row_of) at

-- and each capacity is that of a vehicle
pub vehicle_of : (vehicles : Vehicles) (key : VehicleKey) (own : CapacityRow) → finite.get (capacities_of vehicles) key ≡ Some own → (vehicle : VehicleRow) × (finite.get vehicles key ≡ Some vehicle) × (capacity_row_of vehicle ≡ own)
vehicle_of vehicles key own at =
    elim (finite.get vehicles key) as (λ (o : Option VehicleRow). finite.get vehicles key ≡ o → option_map capacity_row_of o ≡ Some own → (vehicle : VehicleRow) × (finite.get vehicles key ≡ Some vehicle) × (capacity_row_of vehicle ≡ own)) [
      | None ↦ λ _ found. absurd (cc found)
      | Some vehicle ↦ λ is found. (vehicle, is, same_Some (capacity_row_of vehicle) own found)
    ] refl (sym (get-capacities_of vehicles key) ∙ at)

-- their rows are those of the vehicles' capacities
pub capacity_rows : (vehicles : Vehicles) → rows_in vehicle_capacity_columns vehicles ≡ rows_in capacity_columns (capacities_of vehicles)
capacity_rows vehicles =
    sym (ap (map (λ (e : VehicleKey × CapacityRow). capacity_columns e.0 e.1)) (entries-capacities_of vehicles)
    ∙ map-map (λ (e : VehicleKey × CapacityRow). capacity_columns e.0 e.1) (λ (e : VehicleKey × VehicleRow). (e.0, capacity_row_of e.1)) (finite.entries vehicles))

-- ---- a vehicle that is told with its capacity

-- the vehicle with its capacity, where that is known
abbrev with_its_capacity : Capacities → VehicleKey × VehicleRow → Option (VehicleKey × VehicleRow)
with_its_capacity capacities vehicle = if_some (finite.get capacities vehicle.0) (λ (own : CapacityRow). Some (vehicle.0, record vehicle.1 { capacity = own.capacity }))

module _ (capacities : Capacities) where
  -- where its capacity is known
  pub told_with : (row : Row) (key : VehicleKey) (vehicle : VehicleRow) (own : CapacityRow) → vehicle_in row ≡ Some (key, vehicle) → finite.get capacities key ≡ Some own
      → vehicle_with capacities row ≡ Some (key, record vehicle { capacity = own.capacity })
  told_with row key vehicle own told at =
      ap (λ (o : Option (VehicleKey × VehicleRow)). if_some o (with_its_capacity capacities)) told
      ∙ ap (λ (o : Option CapacityRow). if_some o (λ (own : CapacityRow). Some (key, record vehicle { capacity = own.capacity }))) at

  -- what a row has that tells one
  record IsWith (row : Row) (entry : VehicleKey × VehicleRow) : Type 0 where
    vehicle : VehicleRow
    told : vehicle_in row ≡ Some (entry.0, vehicle)
    at : finite.get capacities entry.0 ≡ Some (capacity_row_of entry.1)
    is : entry.1 ≡ record vehicle { capacity = entry.1.capacity }

  is_with : (row : Row) (entry : VehicleKey × VehicleRow) → vehicle_with capacities row ≡ Some entry → IsWith row entry
  is_with row entry is =
      elim (vehicle_in row) as (λ (o : Option (VehicleKey × VehicleRow)). vehicle_in row ≡ o → if_some o (with_its_capacity capacities) ≡ Some entry → IsWith row entry) [
        | None ↦ λ _ found. absurd (cc found)
        | Some vehicle ↦ λ told. elim (finite.get capacities vehicle.0) as (λ (o : Option CapacityRow). finite.get capacities vehicle.0 ≡ o → if_some o (λ (own : CapacityRow). Some (vehicle.0, record vehicle.1 { capacity = own.capacity })) ≡ Some entry → IsWith row entry) [
          | None ↦ λ _ found. absurd (cc found)
          | Some own ↦ λ at found.
              let same : (vehicle.0, record vehicle.1 { capacity = own.capacity }) ≡ entry = same_Some _ entry found in
              subst (IsWith row) same (record { vehicle = vehicle.1; told = told; at = at; is = refl })
        ] refl
      ] refl is

  -- its row is that of the vehicle
  pub with_written : (row : Row) (key : VehicleKey) (vehicle : VehicleRow) → vehicle_with capacities row ≡ Some (key, vehicle) → row ≡ vehicle_columns key vehicle
  with_written row key vehicle is =
      let its = is_with row (key, vehicle) is in
      vehicle_written row key its.vehicle its.told ∙ sym (ap (vehicle_columns key) its.is)

  -- ---- vehicles that are told so

  -- each has its capacity among these
  abbrev HaveCapacities : Vehicles → Type 0
  HaveCapacities vehicles = (key : VehicleKey) (vehicle : VehicleRow) → finite.get vehicles key ≡ Some vehicle → finite.get capacities key ≡ Some (capacity_row_of vehicle)

  capacities_had : (table vehicles : Vehicles) (rows : List Row) → HaveCapacities table → read_rows (vehicle_with capacities) table rows ≡ Some vehicles → HaveCapacities vehicles
  capacities_had table vehicles [] have is = subst HaveCapacities (same_Some table vehicles is) have
  capacities_had table vehicles (row ∷ rows) have is =
      elim (vehicle_with capacities row) as (λ (o : Option (VehicleKey × VehicleRow)). vehicle_with capacities row ≡ o → if_some o (λ e. if_free (finite.get table e.0) (read_rows (vehicle_with capacities) (finite.insert table e.0 e.1) rows)) ≡ Some vehicles → HaveCapacities vehicles) [
        | None ↦ λ _ found. absurd (cc found)
        | Some e ↦ λ from. elim (finite.get table e.0) as (λ (o : Option VehicleRow). if_free o (read_rows (vehicle_with capacities) (finite.insert table e.0 e.1) rows) ≡ Some vehicles → HaveCapacities vehicles) [
          | Some other ↦ λ found. absurd (cc found)
          | None ↦ λ found. capacities_had (finite.insert table e.0 e.1) vehicles rows (λ key vehicle at. elim (put_cases key_cmp-total key_cmp-IsAntisymmetric table e.0 e.1 key vehicle at) [
            | inl here ↦ ap (finite.get capacities) here.0 ∙ (is_with row e from).at ∙ ap (λ (x : VehicleRow). Some (capacity_row_of x)) (sym here.1)
            | inr there ↦ have key vehicle there.1
          ]) found
        ]
      ] refl is

  pub have_capacities : (vehicles : Vehicles) (rows : List Row) → read_rows (vehicle_with capacities) finite.empty rows ≡ Some vehicles → HaveCapacities vehicles
  have_capacities vehicles rows is = capacities_had finite.empty vehicles rows (λ key vehicle at. absurd (let wrong : None ≡ Some vehicle = sym (finite.get-empty {X = VehicleRow} key_cmp key) ∙ at in cc wrong)) is

  -- and no other has one
  pub are_capacities : (vehicles : Vehicles) → HaveCapacities vehicles → are_of_vehicles vehicles capacities ≡ true → capacities ≡ capacities_of vehicles
  are_capacities vehicles have all = finite.same_map key_cmp-total key_cmp-IsAntisymmetric capacities (capacities_of vehicles) (λ key. at_key key ∙ sym (get-capacities_of vehicles key))
    where
      at_key : (key : VehicleKey) → finite.get capacities key ≡ option_map capacity_row_of (finite.get vehicles key)
      at_key key =
          elim (finite.get vehicles key) as (λ (o : Option VehicleRow). finite.get vehicles key ≡ o → finite.get capacities key ≡ option_map capacity_row_of o) [
            | Some vehicle ↦ λ at. have key vehicle at
            | None ↦ λ none. elim (finite.get capacities key) as (λ (o : Option CapacityRow). finite.get capacities key ≡ o → o ≡ None) [
              | None ↦ λ _. refl
              | Some own ↦ λ at. absurd (let wrong = sym (ap is_some none) ∙ each-entry key_cmp-total key_cmp-IsAntisymmetric (λ (e : VehicleKey × CapacityRow). is_some (finite.get vehicles e.0)) capacities all key own at in cc wrong)
            ] refl
          ] refl

  -- the rows of both tables
  pub vehicles_shown : (vehicles : Vehicles) (rows asked others : List Row) → read_rows (vehicle_with capacities) finite.empty rows ≡ Some vehicles → are_of_vehicles vehicles capacities ≡ true
      → IsPermutation asked rows → IsPermutation others (rows_in capacity_columns capacities) → IsPermutation asked (rows_in vehicle_columns vehicles) × IsPermutation others (rows_in vehicle_capacity_columns vehicles)
  vehicles_shown vehicles rows asked others is all shown more = (
    shows_table key_cmp-total key_cmp-IsAntisymmetric vehicle_columns (vehicle_with capacities) with_written asked rows (Ok vehicles) is shown,
    subst (IsPermutation others) (ap (rows_in capacity_columns) (are_capacities vehicles (have_capacities vehicles rows is) all) ∙ sym (capacity_rows vehicles)) more,
  )

-- the capacities of these vehicles are of vehicles
all_of_vehicles : (vehicles : Vehicles) → are_of_vehicles vehicles (capacities_of vehicles) ≡ true
all_of_vehicles vehicles =
    all-entries key_cmp-total key_cmp-IsAntisymmetric (λ (e : VehicleKey × CapacityRow). is_some (finite.get vehicles e.0)) (capacities_of vehicles) (λ key own at. ap is_some (vehicle_of vehicles key own at).1)

-- so none is left over, where both tables are those of the same vehicles
pub none_left_over : (world : Vehicles) (vehicles : Vehicles) (capacities : Capacities) → vehicles ≡ world → capacities ≡ capacities_of world → ¬ (are_of_vehicles vehicles capacities ≡ false)
none_left_over world vehicles capacities same are some =
    let wrong : true ≡ false = sym (all_of_vehicles world) ∙ (λ i. are_of_vehicles (sym same i) (sym are i)) ∙ some in
    cc wrong
