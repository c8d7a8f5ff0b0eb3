-- The open trips of a lawful world are what their journeys, their acts and the jobs tell.
use Rattle.std.proofs.Common.{◌≡◌, ℕ, true, false, cond, List, [], ◌∷◌, filter, find, map, Option, None, Some, refl, sym, ap, subst, ◌∙◌}
use Rattle.std.proofs.lemmas.Option.{same_Some}
use Rattle.std.specs.Cmp.{Equal-is}
use Rattle.std.specs.Cmp.Lexicographic.{nat_list_cmp_total}
use Rattle.std.specs.FinMap as finite
use Rattle.std.specs.List.{AllByRecursion, cons_option, filter_map}
use Rattle.std.specs.Option.{option_and_then, option_map}
use Rattle.std.specs.Ordering.{eq_by_cmp}
use Rattle.sqlite_trees.proofs.ListLemmas.{all_weaker}
use Rattle.agv_header.specs.Key.{key_cmp}
use Rattle.agv_header.specs.KeyOrder.{key_cmp-IsAntisymmetric, key_cmp-total}
use Rattle.agv_header.specs.Name.{name_cmp}
use Rattle.agv_header.specs.declared.key.VehicleKey.{VehicleKey}
use Rattle.agv_order.specs.declared.act.Act.{Act}
use Rattle.agv_order.specs.declared.trip.Trip.{Trip}
use Rattle.agv_store_rows.specs.TripRows.{act_rows, acts_of, is_of, journey_of, journeys_of, rows_if}
use Rattle.agv_store_rows.specs.TripsTold.{acts_told, trip_told}
use Rattle.agv_store_rows.specs.declared.journey_row.JourneyRow.{JourneyRow}
use Rattle.agv_world_core.specs.ConsistentTrips.{HasConsistentTrips}
use Rattle.agv_world_core.specs.Kept.{Keeps}
use Rattle.agv_world_core.specs.Questions.{trip_of}
use Rattle.agv_world_core.specs.Maps.{maps_of}
use Rattle.agv_world_core.specs.Told.{edges_of, names_vehicle, open_trip, trip_in, vehicle_in, vehicles_in, vehicles_of, world_of}
use Rattle.agv_world_core.specs.Worlds.{Vehicle, World}
use Rattle.agv_world_core.specs.declared.row.JobRow.{JobRow}
use Rattle.agv_world_core.specs.declared.row.TripRow.{TripRow}
use Rattle.agv_world_core.specs.declared.row.VehicleRow.{VehicleRow}
use Rattle.agv_world_core.specs.declared.world.World.{World as Tables}
use Rattle.agv_store_rows.specs.Rows.{ActsAreOfJobs}
use Rattle.agv_store_rows.specs.DecodedTrips.{is_driven_by, journey_for, tables_of, told_by_journey, trip_with, trips_with}
use Rattle.agv_store_schema.proofs.FewEntries.{found_entry}
use Rattle.agv_store_rows.proofs.KeyTests.{names_apart}
use Rattle.agv_store_rows.proofs.LawfulTrips.{trip_own, vehicle_is}
use Rattle.agv_store_rows.proofs.LawfulValues.{row_at}
use Rattle.agv_store_schema.proofs.SpreadRows.{entries_found}
use Rattle.agv_store_rows.proofs.TripRowLaws.{ActsFound, ActsListed, ActsTold, JourneysListed}

-- ---- the vehicles that tables tell

vehicles_found : (tables : Tables) (q : VehicleKey) (es : List (VehicleKey × VehicleRow)) → finite.find key_cmp q (vehicles_in tables es) ≡ option_map (vehicle_in tables q) (finite.find key_cmp q es)
vehicles_found tables q [] = refl
vehicles_found tables q (e ∷ es) =
    elim (eq_by_cmp key_cmp q e.0)
    as (λ b. eq_by_cmp key_cmp q e.0 ≡ b → cond b (Some (vehicle_in tables e.0 e.1)) (finite.find key_cmp q (vehicles_in tables es)) ≡ option_map (vehicle_in tables q) (cond b (Some e.1) (finite.find key_cmp q es))) [
      | true ↦ λ tied. ap (λ key. Some (vehicle_in tables key e.1)) (sym (key_cmp-IsAntisymmetric q e.0 ((Equal-is (key_cmp q e.0)).0 tied)))
      | false ↦ λ _. vehicles_found tables q es
    ] refl

vehicles_at : (tables : Tables) (q : VehicleKey) → finite.get (vehicles_of tables) q ≡ option_map (vehicle_in tables q) (finite.get tables.vehicles q)
unfolding vehicles_of
vehicles_at tables q =
    finite.get-from_entries key_cmp-total (vehicles_in tables (finite.entries tables.vehicles)) q
    ∙ vehicles_found tables q (finite.entries tables.vehicles)
    ∙ ap (option_map (vehicle_in tables q)) (sym (finite.get-entries tables.vehicles q))

-- ---- the trip of a vehicle

-- the tables of a world with consistent trips tell that world
abbrev pub TablesTell : Type 0
TablesTell = (tables : Tables) (world : World) → Keeps tables world → HasConsistentTrips world → world_of tables ≡ world

-- the row of the trip of a vehicle: the first that names it
abbrev trip_row_for : World → VehicleKey → Option (List ℕ × TripRow)
trip_row_for world key = find (names_vehicle key) (finite.entries (maps_of world).trips)

-- a trip with its order, as its journey
abbrev journey_at : List ℕ × TripRow → List ℕ × JourneyRow
journey_at entry = (entry.0, journey_of entry.1)

driven : (key : VehicleKey) (es : List (List ℕ × TripRow)) → find (is_driven_by key) (map journey_at es) ≡ option_map journey_at (find (names_vehicle key) es)
driven key [] = refl
driven key (e ∷ es) =
    elim (names_vehicle key e) as (λ b. cond b (Some (journey_at e)) (find (is_driven_by key) (map journey_at es)) ≡ option_map journey_at (cond b (Some e) (find (names_vehicle key) es))) [
      | true ↦ refl
      | false ↦ driven key es
    ]

-- all that is told of a list is what it is made of
all_again : {A B : Type 0} (f : B → Option A) (g : A → B) (xs : List A) → AllByRecursion (λ x. f (g x) ≡ Some x) xs → filter_map f (map g xs) ≡ xs
all_again f g [] are = refl
all_again f g (x ∷ xs) are = ap (λ o. cons_option o (filter_map f (map g xs))) are.0 ∙ ap (λ l. x ∷ l) (all_again f g xs are.1)

listed_again : (trips : finite.FinMap name_cmp TripRow) → finite.from_entries (finite.entries trips) ≡ trips
listed_again trips =
    finite.same_map nat_list_cmp_total names_apart _ _ (λ q. finite.get-from_entries nat_list_cmp_total (finite.entries trips) q ∙ sym (finite.get-entries trips q))

module _ (journeys : JourneysListed) (acts : ActsListed) (found : ActsFound) (told : ActsTold) (world : World) (of_jobs : ActsAreOfJobs (maps_of world)) where
  abbrev trips : finite.FinMap name_cmp TripRow
  trips = (maps_of world).trips

  abbrev jobs : finite.FinMap name_cmp JobRow
  jobs = (maps_of world).jobs

  -- the acts of an order are those of its trip
  own_acts : (order : List ℕ) → filter (is_of order) (finite.entries (acts_of trips)) ≡ rows_if (act_rows order) (finite.get trips order)
  own_acts order = ap (filter (is_of order)) (acts trips) ∙ found trips order

  -- the trip of an order is told by its journey
  pub with_acts : (order : List ℕ) (trip : TripRow) → finite.get trips order ≡ Some trip → trip_with (acts_of trips) jobs (order, journey_of trip) ≡ Some (order, trip)
  with_acts order trip at =
      ap (λ rows. option_map (λ (acts : List Act). (order, trip_told (journey_of trip) acts)) (acts_told jobs 0 rows)) (own_acts order ∙ ap (rows_if (act_rows order)) at)
      ∙ ap (option_map (λ (acts : List Act). (order, trip_told (journey_of trip) acts))) (told jobs order trip (of_jobs order trip at))

  -- the acts of any order are told
  pub acts_known : (order : List ℕ) → (those : List Act) × (acts_told jobs 0 (filter (is_of order) (finite.entries (acts_of trips))) ≡ Some those)
  acts_known order = at (finite.get trips order) refl
    where
      at : (o : Option TripRow) → finite.get trips order ≡ o → (those : List Act) × (acts_told jobs 0 (filter (is_of order) (finite.entries (acts_of trips))) ≡ Some those)
      at None is = ([], ap (acts_told jobs 0) (own_acts order ∙ ap (rows_if (act_rows order)) is))
      at (Some trip) is = (trip.acts, ap (acts_told jobs 0) (own_acts order ∙ ap (rows_if (act_rows order)) is) ∙ told jobs order trip (of_jobs order trip is))

  -- all trips are told by all journeys and acts
  pub all_told : trips_with (journeys_of trips) (acts_of trips) jobs ≡ trips
  all_told =
      ap (λ rows. finite.from_entries (filter_map (trip_with (acts_of trips) jobs) rows)) (journeys trips)
      ∙ ap finite.from_entries (all_again (trip_with (acts_of trips) jobs) journey_at (finite.entries trips)
      (all_weaker _ _ (λ e at. with_acts e.0 e.1 at) (finite.entries trips) (entries_found nat_list_cmp_total trips)))
      ∙ listed_again trips

  -- the journey of a vehicle is that of the first row that names it
  journey_is : (key : VehicleKey) → journey_for (maps_of world) key ≡ option_map journey_at (trip_row_for world key)
  journey_is key = ap (find (is_driven_by key)) (journeys trips) ∙ driven key (finite.entries trips)

  module _ (tell : TablesTell) (good : HasConsistentTrips world) where
    abbrev tables : Tables
    tables = tables_of (maps_of world)

    again : world_of tables ≡ world
    again = tell tables world (record { nodes = refl; edges = refl; stations = refl; vehicles = refl; trips = refl; legs = refl; loads = refl; jobs = refl; used = refl }) good

    opened : (key : VehicleKey) (vehicle : Vehicle) → finite.get world.vehicles key ≡ Some vehicle → open_trip tables key ≡ vehicle.trip
    opened key vehicle at =
        let row : finite.get tables.vehicles key ≡ Some vehicle.row = row_at world key ∙ ap (option_map (λ (v : Vehicle). v.row)) at in
        let built : finite.get (vehicles_of tables) key ≡ Some (vehicle_in tables key vehicle.row) = vehicles_at tables key ∙ ap (option_map (vehicle_in tables key)) row in
        let same : vehicle_in tables key vehicle.row ≡ vehicle = same_Some _ _ (sym built ∙ ap (λ (w : World). finite.get w.vehicles key) again ∙ at) in
        ap (λ (v : Vehicle). v.trip) same

    opens : (key : VehicleKey) → open_trip tables key ≡ option_map (trip_in tables) (trip_row_for world key)
    unfolding open_trip
    opens key = refl

    entry_of : (key : VehicleKey) (e : List ℕ × TripRow) → trip_row_for world key ≡ Some e → (finite.get trips e.0 ≡ Some e.1) × (names_vehicle key e ≡ true)
    entry_of key e is = found_entry nat_list_cmp_total trips (names_vehicle key) e is

    entry_told : (key : VehicleKey) (e : List ℕ × TripRow) → trip_row_for world key ≡ Some e → told_by_journey (maps_of world) (journey_at e) ≡ Some (trip_in tables e)
    entry_told key e is = ap (option_map (trip_in tables)) (with_acts e.0 e.1 (entry_of key e is).0)

    by_row : (key : VehicleKey) (o : Option (List ℕ × TripRow)) → trip_row_for world key ≡ o → (v : Option Vehicle) → finite.get world.vehicles key ≡ v
        → option_and_then (λ (vehicle : Vehicle). vehicle.trip) v ≡ option_and_then (told_by_journey (maps_of world)) (option_map journey_at o)
    by_row key None is None at = refl
    by_row key None is (Some vehicle) at = sym (opened key vehicle at) ∙ opens key ∙ ap (option_map (trip_in tables)) is
    by_row key (Some e) is None at =
        let entry = entry_of key e is in
        let own = trip_own world e.0 e.1 entry.0 in
        let owner : own.key ≡ key = ap (λ (row : TripRow). row.vehicle) own.row_is ∙ vehicle_is key e entry.1 in
        let wrong : ◌≡◌ {A = Option Vehicle} None (Some own.vehicle) = sym at ∙ sym (ap (finite.get world.vehicles) owner) ∙ own.there in
        absurd (cc wrong)
    by_row key (Some e) is (Some vehicle) at = sym (opened key vehicle at) ∙ opens key ∙ ap (option_map (trip_in tables)) is ∙ sym (entry_told key e is)

    -- the trip of a vehicle is told by its journey
    pub trip_again : (key : VehicleKey) → trip_of world key ≡ option_and_then (told_by_journey (maps_of world)) (journey_for (maps_of world) key)
    trip_again key = by_row key (trip_row_for world key) refl (finite.get world.vehicles key) refl ∙ ap (option_and_then (told_by_journey (maps_of world))) (sym (journey_is key))

-- the edges of a trip that is told are those that the rows of its order tell
pub told_way : (world : World) (o : Option (List ℕ × JourneyRow)) (trip : Trip) → option_and_then (told_by_journey (maps_of world)) o ≡ Some trip → trip.edges ≡ edges_of (tables_of (maps_of world)) trip.order
told_way world None trip is = absurd (cc is)
told_way world (Some journey) trip is = at (trip_with (acts_of (maps_of world).trips) (maps_of world).jobs journey) is
  where
    at : (told : Option (List ℕ × TripRow)) → option_map (λ (row : List ℕ × TripRow). trip_in (tables_of (maps_of world)) row) told ≡ Some trip → trip.edges ≡ edges_of (tables_of (maps_of world)) trip.order
    at None is = absurd (cc is)
    at (Some row) is = subst (λ (t : Trip). t.edges ≡ edges_of (tables_of (maps_of world)) t.order) (same_Some _ _ is) refl
