-- What the tests of the acts of open trips say.
use Rattle.std.proofs.Common.{◌≡◌, ◌↔◌, ℕ, ◌||◌, not, nat_eq, Bool, true, false, List, Contains, Option, None, Some, refl, sym, ap, ◌∙◌}
use Rattle.std.specs.Cmp.Lexicographic.{pointwise, nat_list_eq_equiv, same_text}
use Rattle.std.specs.FinMap.{entries, get}
use Rattle.std.specs.List.{list_all}
use Rattle.std.proofs.lemmas.Bool.{and_from, and_parts}
use Rattle.agv_header.specs.KeyOrder.{key_eq}
use Rattle.agv_header.specs.declared.key.VehicleKey.{VehicleKey}
use Rattle.agv_message_core.specs.declared.order.ActKind.{ActKind}
use Rattle.agv_message_core.specs.declared.order.ActKind.TheVariants.{Pick, Drop}
use Rattle.agv_order.specs.Statuses.{is_finished}
use Rattle.agv_order.specs.declared.act.Act.{Act}
use Rattle.agv_order.specs.declared.trip.Trip.{Trip}
use Rattle.agv_stock.specs.Phase.{is_live}
use Rattle.agv_stock.specs.declared.job.Phase.{Phase}
use Rattle.agv_stock.specs.declared.job.Phase.TheVariants as phase
use Rattle.agv_stock.specs.declared.place.Place.{Place}
use Rattle.agv_world_core.specs.ConsistentTrips.{HasConsistentTrips}
use Rattle.agv_world_core.specs.Kept.{Keeps}
use Rattle.agv_world_core.specs.Lawful.{HasAct, IsJob, carried_at, station_for}
use Rattle.agv_world_lawful.specs.LoadTests.{are_acts, are_jobs_apart, is_act, is_act_of, is_apart_from, is_as_acted, is_carried_at, is_done, is_riding, is_same_job, is_shared, names_its_job}
use Rattle.agv_world_core.specs.Maps.{trip_row}
use Rattle.agv_world_core.specs.Told.{world_of}
use Rattle.agv_world_core.specs.declared.row.JobRow.{JobRow}
use Rattle.agv_world_core.specs.declared.row.TripRow.{TripRow}
use Rattle.agv_world_core.specs.declared.world.World.{World as Tables}
use Rattle.agv_world_core.proofs.lists.EachElement.{all_pass, any_passes, each_passes, some_passes}
use Rattle.agv_world_core.proofs.lists.EachEntry.{all-entries, each-entry}
use Rattle.agv_world_core.proofs.lawful_worlds.CapacityCounts.{key_itself}
use Rattle.agv_world_core.proofs.lists.Orders.{names_apart, names_total}
use Rattle.agv_world_lawful.proofs.load_tests.PlacesTold.{is_at_station, is_on_vehicle, placed_at, placed_on, same_key}
use Rattle.agv_world_core.proofs.told_worlds.RowsTold.{act_of_row, row_of_trip}

abbrev Entry : Type 0
Entry = List ℕ × TripRow

-- ---- phases

rides : (its : Phase) → is_riding its ≡ true → its ≡ phase.Riding
rides phase.Waiting is = cc
rides phase.Riding is = refl
rides phase.Done is = cc
rides phase.Stopped is = cc

over : (its : Phase) → is_done its ≡ true → its ≡ phase.Done
over phase.Waiting is = cc
over phase.Riding is = cc
over phase.Done is = refl
over phase.Stopped is = cc

-- ---- the place of a live job's load

carried_is : (key : VehicleKey) (origin : List ℕ) (finished : Bool) (found : Option Place) → is_carried_at key origin finished found ≡ true → found ≡ Some (carried_at key origin finished)
carried_is key origin false found is = placed_at origin found is
carried_is key origin true found is = placed_on key found is

is_carried : (key : VehicleKey) (origin : List ℕ) (finished : Bool) (found : Option Place) → found ≡ Some (carried_at key origin finished) → is_carried_at key origin finished found ≡ true
is_carried key origin false found at = is_at_station origin found at
is_carried key origin true found at = is_on_vehicle key found at

module _ (tables : Tables) (keeps : Keeps tables (world_of tables)) (good : HasConsistentTrips (world_of tables)) where
  -- the job and its load are where the act has brought them
  pub record Acted (key : VehicleKey) (row : JobRow) (kind : ActKind) (finished : Bool) : Type 0 where
    pub pick : kind ≡ Pick → is_live row.phase ≡ true → get tables.loads row.load ≡ Some (carried_at key row.origin finished)
    pub to_drop : kind ≡ Drop → finished ≡ false → row.phase ≡ phase.Riding
    pub dropped : kind ≡ Drop → finished ≡ true → row.phase ≡ phase.Done

  acted : (key : VehicleKey) (row : JobRow) (kind : ActKind) (finished : Bool) → is_as_acted tables key row kind finished ≡ true → Acted key row kind finished
  acted key row Pick finished is = record { pick = λ e live. carried_is key row.origin finished (get tables.loads row.load) (then (is_live row.phase) _ live is); to_drop = λ e. cc; dropped = λ e. cc }
    where
      then : (a b : Bool) → a ≡ true → (not a || b) ≡ true → b ≡ true
      then true b live is = is
      then false b live is = cc
  acted key row Drop false is = record { pick = λ e. cc; to_drop = λ e f. rides row.phase is; dropped = λ e f. cc }
  acted key row Drop true is = record { pick = λ e. cc; to_drop = λ e f. cc; dropped = λ e f. over row.phase is }

  as_acted : (key : VehicleKey) (row : JobRow) (kind : ActKind) (finished : Bool) → Acted key row kind finished → is_as_acted tables key row kind finished ≡ true
  as_acted key row Pick finished its = where_live (is_live row.phase) _ (λ live. is_carried key row.origin finished (get tables.loads row.load) (its.pick refl live))
    where
      where_live : (a b : Bool) → (a ≡ true → b ≡ true) → (not a || b) ≡ true
      where_live true b is = is refl
      where_live false b is = refl
  as_acted key row Drop false its = ap is_riding (its.to_drop refl refl)
  as_acted key row Drop true its = ap is_done (its.dropped refl refl)

  -- the act names the load and the station of its job, and has brought them where they are
  pub record Fits (key : VehicleKey) (act : Act) : Type 0 where
    pub row : JobRow
    pub job : IsJob (world_of tables) act.job row
    pub load : row.load ≡ act.load
    pub station : station_for act.kind row ≡ act.station
    pub acted : Acted key row act.kind (is_finished act.status)

  fits : (key : VehicleKey) (act : Act) → is_act tables key act ≡ true → Fits key act
  fits key act is = of_row (get tables.jobs act.job) refl is
    where
      of_row : (found : Option JobRow) → get tables.jobs act.job ≡ found → is_act_of tables key act found ≡ true → Fits key act
      of_row None at is = cc
      of_row (Some row) at is =
          let parts = and_parts (names_its_job row act) (is_as_acted tables key row act.kind (is_finished act.status)) is in
          let names = and_parts (pointwise nat_eq row.load act.load) (pointwise nat_eq (station_for act.kind row) act.station) parts.0 in
          record {
            row = row;
            job = at;
            load = same_text row.load act.load (sym names.0);
            station = same_text (station_for act.kind row) act.station (sym names.1);
            acted = acted key row act.kind (is_finished act.status) parts.1;
          }

  is_fitting : (key : VehicleKey) (act : Act) → Fits key act → is_act tables key act ≡ true
  is_fitting key act its =
      ap (is_act_of tables key act) its.job
      ∙ and_from (names_its_job its.row act) (is_as_acted tables key its.row act.kind (is_finished act.status))
      (and_from (pointwise nat_eq its.row.load act.load) (pointwise nat_eq (station_for act.kind its.row) act.station)
      (ap (λ load. pointwise nat_eq load act.load) its.load ∙ nat_list_eq_equiv.refl act.load)
      (ap (λ station. pointwise nat_eq station act.station) its.station ∙ nat_list_eq_equiv.refl act.station))
      (as_acted key its.row act.kind (is_finished act.status) its.acted)

  -- each act of an open trip fits its job
  abbrev pub ActsFit : Type 0
  ActsFit = (key : VehicleKey) (trip : Trip) (act : Act) → HasAct (world_of tables) key trip act → Fits key act

  pub acts_told : (are_acts tables ≡ true) ↔ ActsFit
  acts_told =
      let test : Entry → Bool = λ entry. list_all (is_act tables entry.1.vehicle) entry.1.acts in (
        λ all key trip act has.
            let row = row_of_trip tables (world_of tables) keeps good key trip has.open_trip in
            fits key act (each_passes (is_act tables key) trip.acts (each-entry names_total names_apart test tables.trips all trip.order (trip_row key trip) row) act has.among),
        λ each. all-entries names_total names_apart test tables.trips (λ order row at. all_pass (is_act tables row.vehicle) row.acts (λ act among.
            let of = act_of_row tables (world_of tables) keeps good order row at act among in
            is_fitting row.vehicle act (each row.vehicle of.0 act of.1))),
      )

  -- ---- a job stands in at most one open trip

  abbrev pub OneVehicle : Type 0
  OneVehicle = (one other : VehicleKey) (trip further : Trip) (act more : Act) → HasAct (world_of tables) one trip act → HasAct (world_of tables) other further more → act.job ≡ more.job → one ≡ other

  shares : (acts others : List Act) → is_shared acts others ≡ true → (act : Act) × (more : Act) × Contains acts act × Contains others more × (act.job ≡ more.job)
  shares acts others is =
      let act = some_passes _ acts is in
      let more = some_passes (is_same_job act.0) others act.2 in
      (act.0, more.0, act.1, more.1, same_text act.0.job more.0.job (sym more.2))

  shared : (acts others : List Act) (act more : Act) → Contains acts act → Contains others more → act.job ≡ more.job → is_shared acts others ≡ true
  shared acts others act more among by same =
      any_passes _ acts act among (any_passes (is_same_job act) others more by (ap (λ job. pointwise nat_eq job more.job) same ∙ nat_list_eq_equiv.refl more.job))

  pub jobs_apart_told : (are_jobs_apart tables ≡ true) ↔ OneVehicle
  jobs_apart_told =
      let inner : Entry → Entry → Bool = λ entry other. is_apart_from entry other in
      let outer : Entry → Bool = λ entry. list_all (is_apart_from entry) (entries tables.trips) in (
        λ all one other trip further act more has too same.
            let row = row_of_trip tables (world_of tables) keeps good one trip has.open_trip in
            let next = row_of_trip tables (world_of tables) keeps good other further too.open_trip in
            let apart = each-entry names_total names_apart (inner (trip.order, trip_row one trip)) tables.trips (each-entry names_total names_apart outer tables.trips all trip.order (trip_row one trip) row) further.order (trip_row other further) next in
            same_key one other (first (key_eq one other) (is_shared trip.acts further.acts) apart (shared trip.acts further.acts act more has.among too.among same)),
        λ each. all-entries names_total names_apart outer tables.trips (λ order row at. all-entries names_total names_apart (inner (order, row)) tables.trips (λ more next by.
            where_shared (key_eq row.vehicle next.vehicle) (is_shared row.acts next.acts) (λ is.
            let both = shares row.acts next.acts is in
            let of = act_of_row tables (world_of tables) keeps good order row at both.0 both.2 in
            let too = act_of_row tables (world_of tables) keeps good more next by both.1 both.3 in
            ap (λ key. key_eq key next.vehicle) (each row.vehicle next.vehicle of.0 too.0 both.0 both.1 of.1 too.1 both.4) ∙ key_itself next.vehicle))),
      )
    where
      first : (a b : Bool) → (a || not b) ≡ true → b ≡ true → a ≡ true
      first true b is shares = refl
      first false true is shares = is
      first false false is shares = shares

      where_shared : (a b : Bool) → (b ≡ true → a ≡ true) → (a || not b) ≡ true
      where_shared true b is = refl
      where_shared false true is = is refl
      where_shared false false is = refl
