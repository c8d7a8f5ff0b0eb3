-- The rows of the first schema of a world, moved, are those that the second has of it.
use Rattle.std.proofs.Common.{◌≡◌, ◌∙◌, ◌++◌, ℕ, List, [], ◌∷◌, map, append-nil, IsPermutation, refl, sym, ap, subst}
use Rattle.std.specs.FinMap as finite
use Rattle.std.specs.List.{flat_map}
use Rattle.std.specs.Ordering.{nat_cmp}
use Rattle.std.proofs.lemmas.Cmp.{nat_cmp_total}
use Rattle.std.proofs.lemmas.List.{map-append}
use Rattle.std.proofs.lemmas.List.Sorted.{IsPermutation-middle, IsPermutation-refl, IsPermutation-sym, IsPermutation-trans}
use Rattle.sqlite_value.specs.Order.{Row}
use Rattle.agv_header.specs.Key.{key_cmp}
use Rattle.agv_header.specs.Name.{name_cmp}
use Rattle.agv_header.specs.declared.key.VehicleKey.{VehicleKey}
use Rattle.agv_store_rows.specs.TripRows.{act_rows, acts_of, journey_of, journeys_of}
use Rattle.agv_store_rows.specs.declared.act_key.ActKey.{ActKey}
use Rattle.agv_store_rows.specs.declared.act_row.ActRow.{ActRow}
use Rattle.agv_store_rows.specs.declared.journey_row.JourneyRow.{JourneyRow}
use Rattle.agv_world_core.specs.Kept.{Keeps}
use Rattle.agv_world_core.specs.Maps.{maps_of}
use Rattle.agv_world_core.specs.Worlds.{World}
use Rattle.agv_world_core.specs.declared.row.TripRow.{TripRow}
use Rattle.agv_world_core.specs.declared.row.VehicleRow.{VehicleRow}
use Rattle.agv_world_core.specs.declared.world.World.{World as Tables}
use Rattle.agv_store_schema.specs.declared.table_name.TableName.TheVariants as the
use Rattle.agv_store_migrate.specs.FirstRows.{first_lists}
use Rattle.agv_store_migrate.specs.Moved.{for_each, moved_lists, with_journey, with_vehicle_capacity}
use Rattle.agv_store_rows.specs.Columns.{act_columns, edge_columns, hold_columns, job_columns, journey_columns, leg_columns, load_columns, meta_columns, node_columns, vehicle_capacity_columns, station_columns, used_columns, vehicle_columns}
use Rattle.agv_store_schema.specs.DeskRows.{with_rows}
use Rattle.agv_store_rows.specs.Rows.{AreAlike, row_lists, rows_for, rows_in, rows_of, rows_of_acts}
use Rattle.agv_store_schema.specs.SchemaNumbers.{schema_number}
use Rattle.agv_store_rows.proofs.TripRowLaws.{ActsListed, JourneysListed}
use Rattle.agv_store_sql.proofs.sql.EntryEdits.{map_of_map}
use Rattle.agv_store_read.proofs.TableReading.{no_entries}

-- ---- rows in front of others, one after the other

abbrev onto : List Row → List Row → List Row
onto [] rows = rows
onto (row ∷ more) rows = onto more (row ∷ rows)

onto_more : (xs ys rows : List Row) → onto (xs ++ ys) rows ≡ onto ys (onto xs rows)
onto_more [] ys rows = refl
onto_more (x ∷ xs) ys rows = onto_more xs ys (x ∷ rows)

onto_is : (xs rows : List Row) → IsPermutation (xs ++ rows) (onto xs rows)
onto_is [] rows = IsPermutation-refl rows
onto_is (x ∷ xs) rows = IsPermutation-trans _ _ _ (IsPermutation-sym _ _ (IsPermutation-middle xs x rows)) (onto_is xs (x ∷ rows))

onto_nothing : (xs : List Row) → IsPermutation (onto xs []) xs
onto_nothing xs = IsPermutation-sym _ _ (subst (λ ys. IsPermutation ys (onto xs [])) (append-nil xs) (onto_is xs []))

-- ---- the rows of vehicles and trips

abbrev vehicle_capacity : VehicleKey × VehicleRow → Row
vehicle_capacity entry = vehicle_capacity_columns entry.0 entry.1

abbrev journey : List ℕ × TripRow → Row
journey entry = journey_columns entry.0 (journey_of entry.1)

abbrev acts : List ℕ × TripRow → List Row
acts entry = rows_of_acts (act_rows entry.0 entry.1)

module _ (meta nodes edges stations vehicles trips legs loads jobs holds used : List Row) where
  -- the eleven lists, and those of the three tables
  abbrev beside : List Row → List Row → List Row → List (List Row)
  beside capacities journeys acts = meta ∷ nodes ∷ edges ∷ stations ∷ vehicles ∷ trips ∷ legs ∷ loads ∷ jobs ∷ holds ∷ used ∷ capacities ∷ journeys ∷ acts ∷ []

  capacities_added : (es : List (VehicleKey × VehicleRow)) (a b c : List Row) → for_each with_vehicle_capacity es (beside a b c) ≡ beside (onto (map vehicle_capacity es) a) b c
  capacities_added [] a b c = refl
  capacities_added (e ∷ es) a b c = capacities_added es (vehicle_capacity e ∷ a) b c

  acts_added : (rows : List Row) (a b c : List Row) → with_rows the.Act rows (beside a b c) ≡ beside a b (onto rows c)
  acts_added [] a b c = refl
  acts_added (row ∷ rows) a b c = acts_added rows a b (row ∷ c)

  trips_added : (es : List (List ℕ × TripRow)) (a b c : List Row) → for_each with_journey es (beside a b c) ≡ beside a (onto (map journey es) b) (onto (flat_map acts es) c)
  trips_added [] a b c = refl
  trips_added (e ∷ es) a b c =
      ap (for_each with_journey es) (acts_added (acts e) a (journey e ∷ b) c) ∙ trips_added es a (journey e ∷ b) (onto (acts e) c)
      ∙ ap (beside a (onto (map journey (e ∷ es)) b)) (sym (onto_more (acts e) (flat_map acts es) c))

  all_added : (capacities : List (VehicleKey × VehicleRow)) (opened : List (List ℕ × TripRow))
      → for_each with_journey opened (for_each with_vehicle_capacity capacities (beside [] [] [])) ≡ beside (onto (map vehicle_capacity capacities) []) (onto (map journey opened) []) (onto (flat_map acts opened) [])
  all_added capacities opened = ap (for_each with_journey opened) (capacities_added capacities [] [] []) ∙ trips_added opened (onto (map vehicle_capacity capacities) []) [] []

-- ---- the tables of journeys and acts

map_parts : {A B C : Type 0} (f : B → C) (g : A → List B) (xs : List A) → map f (flat_map g xs) ≡ flat_map (λ x. map f (g x)) xs
map_parts f g [] = refl
map_parts f g (x ∷ xs) = map-append f (g x) (flat_map g xs) ∙ ap (λ ys. map f (g x) ++ ys) (map_parts f g xs)

journeys_are : JourneysListed → (trips : finite.FinMap name_cmp TripRow) → map journey (finite.entries trips) ≡ rows_in journey_columns (journeys_of trips)
journeys_are listed trips =
    sym (ap (map (λ (e : List ℕ × JourneyRow). journey_columns e.0 e.1)) (listed trips) ∙ map_of_map (λ (e : List ℕ × JourneyRow). journey_columns e.0 e.1) (λ (e : List ℕ × TripRow). (e.0, journey_of e.1)) (finite.entries trips))

acts_are : ActsListed → (trips : finite.FinMap name_cmp TripRow) → flat_map acts (finite.entries trips) ≡ rows_in act_columns (acts_of trips)
acts_are listed trips =
    sym (ap (map (λ (e : ActKey × ActRow). act_columns e.0 e.1)) (listed trips) ∙ map_parts (λ (e : ActKey × ActRow). act_columns e.0 e.1) (λ (e : List ℕ × TripRow). act_rows e.0 e.1) (finite.entries trips))

number_is : (world : World) → rows_in meta_columns (maps_of world).meta ≡ meta_columns 1 schema_number ∷ []
number_is world = rw (finite.entries-insert nat_cmp_total (finite.empty {K = ℕ} {X = ℕ} {R = nat_cmp}) 1 schema_number, no_entries {K = ℕ} {X = ℕ} nat_cmp)

-- ---- all tables

pub moved_alike : JourneysListed → ActsListed → (tables : Tables) (world : World) → Keeps tables world
    → AreAlike (moved_lists tables (first_lists (maps_of world) ++ [] ∷ [] ∷ [] ∷ [])) (rows_of world)
unfolding first_lists row_lists
moved_alike journeys listed tables world keeps =
    let maps = maps_of world in
    let vehicles = finite.entries tables.vehicles in
    let trips = finite.entries tables.trips in
    let capacities_are : IsPermutation (onto (map vehicle_capacity vehicles) []) (rows_in vehicle_capacity_columns maps.vehicles) =
    subst (λ (m : finite.FinMap key_cmp VehicleRow). IsPermutation (onto (map vehicle_capacity vehicles) []) (rows_in vehicle_capacity_columns m)) keeps.vehicles (onto_nothing (map vehicle_capacity vehicles)) in
    let journeys_moved : IsPermutation (onto (map journey trips) []) (rows_in journey_columns (journeys_of maps.trips)) =
    subst (λ (m : finite.FinMap name_cmp TripRow). IsPermutation (onto (map journey trips) []) (rows_in journey_columns (journeys_of m))) keeps.trips
    (subst (IsPermutation (onto (map journey trips) [])) (journeys_are journeys tables.trips) (onto_nothing (map journey trips))) in
    let acts_moved : IsPermutation (onto (flat_map acts trips) []) (rows_in act_columns (acts_of maps.trips)) =
    subst (λ (m : finite.FinMap name_cmp TripRow). IsPermutation (onto (flat_map acts trips) []) (rows_in act_columns (acts_of m))) keeps.trips
    (subst (IsPermutation (onto (flat_map acts trips) [])) (acts_are listed tables.trips) (onto_nothing (flat_map acts trips))) in
    let number : IsPermutation (meta_columns 1 schema_number ∷ []) (rows_in meta_columns maps.meta) =
    subst (IsPermutation (meta_columns 1 schema_number ∷ [])) (sym (number_is world)) (IsPermutation-refl _) in
    let same : (l : List Row) → IsPermutation l l = λ l. IsPermutation-refl l in
    subst (λ lists. AreAlike lists (row_lists maps))
    (sym (all_added (meta_columns 1 schema_number ∷ []) (rows_for node_columns maps.nodes) (rows_in edge_columns maps.edges) (rows_in station_columns maps.stations) (rows_in vehicle_columns maps.vehicles) []
    (rows_in leg_columns maps.legs) (rows_in load_columns maps.loads) (rows_in job_columns maps.jobs) (rows_in hold_columns maps.holds) (rows_for used_columns maps.used) vehicles trips))
    (number, (same _, (same _, (same _, (same _, (same _, (same _, (same _, (same _, (same _, (same _, (capacities_are, (journeys_moved, (acts_moved, tt))))))))))))))
