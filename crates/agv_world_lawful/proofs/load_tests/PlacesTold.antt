-- What the tests of the places of loads and of the rows of jobs say.
use Rattle.std.proofs.Common.{◌≡◌, ◌↔◌, ℕ, ◌≤◌, ◌&&◌, not, nat_eq, Bool, true, false, List, Option, None, Some, is_some, leb, refl, sym, ap, ◌∙◌}
use Rattle.std.specs.Cmp.Lexicographic.{pointwise, nat_list_eq_equiv, same_text}
use Rattle.std.specs.FinMap as finite
use Rattle.std.specs.FinMap.{get}
use Rattle.std.proofs.lemmas.Bool.{and_from, and_parts, le-leb, leb-true}
use Rattle.agv_header.specs.KeyOrder.{key_cmp-IsAntisymmetric, key_cmp-ties, key_eq}
use Rattle.agv_header.specs.declared.key.VehicleKey.{VehicleKey}
use Rattle.agv_message_core.specs.declared.order.ActKind.{ActKind}
use Rattle.agv_message_core.specs.declared.order.ActKind.TheVariants.{Pick, Drop}
use Rattle.agv_order.specs.Statuses.{is_finished}
use Rattle.agv_order.specs.Stops.{is_drop}
use Rattle.agv_stock.specs.declared.job.Phase.{Phase}
use Rattle.agv_stock.specs.declared.job.Phase.TheVariants as phase
use Rattle.agv_stock.specs.declared.place.Place.{Place}
use Rattle.agv_stock.specs.declared.place.Place.TheVariants as place
use Rattle.agv_world_core.specs.ConsistentTrips.{HasConsistentTrips}
use Rattle.agv_world_core.specs.Kept.{Keeps}
use Rattle.agv_world_core.specs.Carriers.{is_drop_of}
use Rattle.agv_world_core.specs.Lawful.{IsJob, IsJobIn, IsPlaceIn, IsToDrop, is_to_drop}
use Rattle.agv_world_lawful.specs.LoadTests.{are_jobs, are_loads_few, are_places, has_station, is_carried, is_dropped_by, is_in_phase, is_job, is_job_row, is_place, is_placed_at, is_placed_on}
use Rattle.agv_world_core.specs.Maps.{trip_row}
use Rattle.agv_world_core.specs.Told.{vehicle_in, world_of}
use Rattle.agv_world_core.specs.declared.row.JobRow.{JobRow}
use Rattle.agv_world_core.specs.declared.world.World.{World as Tables}
use Rattle.agv_world_core.proofs.lists.EachElement.{any_passes, some_passes}
use Rattle.agv_world_core.proofs.lists.EachEntry.{all-entries, any-entry, each-entry, some-entry}
use Rattle.agv_world_core.proofs.lists.Entries.{is_same}
use Rattle.agv_world_core.proofs.lawful_worlds.CapacityCounts.{key_itself}
use Rattle.agv_world_core.proofs.lists.Orders.{names_apart, names_total}
use Rattle.agv_world_core.proofs.told_worlds.RowsTold.{act_of_row, known, row_of_trip, row_of_vehicle, vehicle_of_row}

-- ---- few

pub few_told : (tables : Tables) → (are_loads_few tables ≡ true) ↔ ((finite.len tables.loads ≤ 1000000) × (finite.len tables.jobs ≤ 1000000))
few_told tables =
    let loads = finite.len tables.loads in
    let jobs = finite.len tables.jobs in (
      λ few. let parts = and_parts (leb loads 1000000) (leb jobs 1000000) few in (leb-true loads 1000000 parts.0, leb-true jobs 1000000 parts.1),
      λ few. and_from (leb loads 1000000) (leb jobs 1000000) (le-leb loads 1000000 few.0) (le-leb jobs 1000000 few.1),
    )

-- ---- the place of a load

pub same_key : (one other : VehicleKey) → key_eq one other ≡ true → one ≡ other
same_key one other is = is_same key_cmp-IsAntisymmetric one other (sym (key_cmp-ties one other) ∙ is)

pub placed_at : (station : List ℕ) (found : Option Place) → is_placed_at station found ≡ true → found ≡ Some (place.Station station)
placed_at station None is = cc
placed_at station (Some (place.Station id)) is = ap (λ s. Some (place.Station s)) (same_text id station (sym is))
placed_at station (Some (place.Vehicle key)) is = cc
placed_at station (Some place.Checking) is = cc
placed_at station (Some place.Left) is = cc

pub is_at_station : (station : List ℕ) (found : Option Place) → found ≡ Some (place.Station station) → is_placed_at station found ≡ true
is_at_station station found at = ap (is_placed_at station) at ∙ nat_list_eq_equiv.refl station

pub placed_on : (key : VehicleKey) (found : Option Place) → is_placed_on key found ≡ true → found ≡ Some (place.Vehicle key)
placed_on key None is = cc
placed_on key (Some (place.Station id)) is = cc
placed_on key (Some (place.Vehicle by)) is = ap (λ k. Some (place.Vehicle k)) (same_key by key is)
placed_on key (Some place.Checking) is = cc
placed_on key (Some place.Left) is = cc

pub is_on_vehicle : (key : VehicleKey) (found : Option Place) → found ≡ Some (place.Vehicle key) → is_placed_on key found ≡ true
is_on_vehicle key found at = ap (is_placed_on key) at ∙ key_itself key

-- ---- places

module _ (tables : Tables) where
  place_known : (where_is : Place) → is_place tables where_is ≡ true → IsPlaceIn (world_of tables) where_is
  place_known (place.Station id) is = known (get tables.stations id) is
  place_known (place.Vehicle key) is =
      let row = known (get tables.vehicles key) is in
      (vehicle_in tables key row.0, vehicle_of_row tables key row.0 row.1)
  place_known place.Checking is = tt
  place_known place.Left is = tt

  known_place : (where_is : Place) → IsPlaceIn (world_of tables) where_is → is_place tables where_is ≡ true
  known_place (place.Station id) is = ap is_some is.1
  known_place (place.Vehicle key) is = ap is_some (row_of_vehicle tables key is.0 is.1).row
  known_place place.Checking is = refl
  known_place place.Left is = refl

  -- what the places name is known
  abbrev pub PlacesKnown : Type 0
  PlacesKnown = (load : List ℕ) (where_is : Place) → get tables.loads load ≡ Some where_is → IsPlaceIn (world_of tables) where_is

  pub places_told : (are_places tables ≡ true) ↔ PlacesKnown
  places_told =
      let test : List ℕ × Place → Bool = λ entry. is_place tables entry.1 in (
        λ all load where_is at. place_known where_is (each-entry names_total names_apart test tables.loads all load where_is at),
        λ each. all-entries names_total names_apart test tables.loads (λ load where_is at. known_place where_is (each load where_is at)),
      )

-- ---- jobs

to_drop : (kind : ActKind) (finished : Bool) → (is_drop kind && not finished) ≡ true → (kind ≡ Drop) × (finished ≡ false)
to_drop Pick finished is = cc
to_drop Drop true is = cc
to_drop Drop false is = (refl, refl)

module _ (tables : Tables) (keeps : Keeps tables (world_of tables)) (good : HasConsistentTrips (world_of tables)) where
  -- some open trip is still to drop the job
  pub dropped : (job : List ℕ) → is_carried tables job ≡ true → IsToDrop (world_of tables) job
  dropped job is =
      let entry = some-entry names_total names_apart (is_dropped_by job) tables.trips is in
      let act = some_passes (is_drop_of job) entry.1.acts entry.3 in
      let parts = and_parts (is_to_drop act.0) (pointwise nat_eq act.0.job job) act.2 in
      let kind = to_drop act.0.kind (is_finished act.0.status) parts.0 in
      let of = act_of_row tables (world_of tables) keeps good entry.0 entry.1 entry.2 act.0 act.1 in
      record { key = entry.1.vehicle; trip = of.0; act = act.0; has = of.1; drop = kind.0; of_job = same_text act.0.job job (sym parts.1); undone = kind.1 }

  pub drops : (job : List ℕ) → IsToDrop (world_of tables) job → is_carried tables job ≡ true
  drops job its =
      let kind : is_to_drop its.act ≡ true = (λ i. is_drop (its.drop i) && not (its.undone i)) in
      let same : pointwise nat_eq its.act.job job ≡ true = ap (λ j. pointwise nat_eq j job) its.of_job ∙ nat_list_eq_equiv.refl job in
      any-entry names_total names_apart (is_dropped_by job) tables.trips its.trip.order (trip_row its.key its.trip) (row_of_trip tables (world_of tables) keeps good its.key its.trip its.has.open_trip)
      (any_passes (is_drop_of job) its.trip.acts its.act its.has.among (and_from (is_to_drop its.act) (pointwise nat_eq its.act.job job) kind same))

  -- a job that waits has its load at the origin, and one that rides is still to be dropped
  pub record InPhase (job : List ℕ) (row : JobRow) (stage : Phase) : Type 0 where
    pub waiting : stage ≡ phase.Waiting → get tables.loads row.load ≡ Some (place.Station row.origin)
    pub riding : stage ≡ phase.Riding → IsToDrop (world_of tables) job

  in_phase : (job : List ℕ) (row : JobRow) (stage : Phase) → is_in_phase tables job row stage ≡ true → InPhase job row stage
  in_phase job row phase.Waiting is = record { waiting = λ e. placed_at row.origin (get tables.loads row.load) is; riding = λ e. cc }
  in_phase job row phase.Riding is = record { waiting = λ e. cc; riding = λ e. dropped job is }
  in_phase job row phase.Done is = record { waiting = λ e. cc; riding = λ e. cc }
  in_phase job row phase.Stopped is = record { waiting = λ e. cc; riding = λ e. cc }

  phase_passes : (job : List ℕ) (row : JobRow) (stage : Phase) → InPhase job row stage → is_in_phase tables job row stage ≡ true
  phase_passes job row phase.Waiting is = is_at_station row.origin (get tables.loads row.load) (is.waiting refl)
  phase_passes job row phase.Riding is = drops job (is.riding refl)
  phase_passes job row phase.Done is = refl
  phase_passes job row phase.Stopped is = refl

  job_known : (row : JobRow) → is_job tables row ≡ true → IsJobIn (world_of tables) row
  job_known row is =
      let load = and_parts (is_some (get tables.loads row.load)) (has_station tables row.origin && has_station tables row.target) is in
      let stations = and_parts (has_station tables row.origin) (has_station tables row.target) load.1 in
      record { load = known (get tables.loads row.load) load.0; origin = known (get tables.stations row.origin) stations.0; target = known (get tables.stations row.target) stations.1 }

  known_job : (row : JobRow) → IsJobIn (world_of tables) row → is_job tables row ≡ true
  known_job row is =
      and_from (is_some (get tables.loads row.load)) (has_station tables row.origin && has_station tables row.target) (ap is_some is.load.1)
      (and_from (has_station tables row.origin) (has_station tables row.target) (ap is_some is.origin.1) (ap is_some is.target.1))

  -- what the jobs name is known, and each is in its phase
  pub record JobsStand : Type 0 where
    pub known : (job : List ℕ) (row : JobRow) → IsJob (world_of tables) job row → IsJobIn (world_of tables) row
    pub phases : (job : List ℕ) (row : JobRow) → IsJob (world_of tables) job row → InPhase job row row.phase

  pub jobs_told : (are_jobs tables ≡ true) ↔ JobsStand
  jobs_told = (
    λ all.
        let parts = λ (job : List ℕ) (row : JobRow) (at : IsJob (world_of tables) job row). and_parts (is_job tables row) (is_in_phase tables job row row.phase) (each-entry names_total names_apart (is_job_row tables) tables.jobs all job row at) in
        record { known = λ job row at. job_known row (parts job row at).0; phases = λ job row at. in_phase job row row.phase (parts job row at).1 },
    λ stand. all-entries names_total names_apart (is_job_row tables) tables.jobs (λ job row at. and_from (is_job tables row) (is_in_phase tables job row row.phase) (known_job row (stand.known job row at)) (phase_passes job row row.phase (stand.phases job row at))),
  )
