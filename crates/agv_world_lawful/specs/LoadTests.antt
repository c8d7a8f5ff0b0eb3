-- Derived, not the promise: tests of the tables of loads and jobs, by look-ups. If the vehicles are lawful, all of them pass if and only if the world has the lawful loads (`HasLawfulLoads`) of `LawfulParts.antt` of agv_world_core (`is_lawful`).
use Rattle.std.specs.Prelude.{ℕ, ◌+◌, ◌&&◌, ◌||◌, not, nat_eq, nat_le, nat_lt, Bool, true, false, List, [], ◌∷◌, filter, find, count_by, Option, None, Some, if◌then◌else◌}
use Rattle.std.specs.Cmp.Lexicographic.{pointwise}
use Rattle.std.specs.FinMap as finite
use Rattle.std.specs.FinSet as set
use Rattle.std.specs.List.{list_all, list_any}
use Rattle.std.specs.Option.{is_some, unwrap_or}
use Rattle.agv_header.specs.KeyOrder.{key_eq}
use Rattle.agv_header.specs.Limits.{most_records}
use Rattle.agv_header.specs.Name.{name_cmp}
use Rattle.agv_header.specs.declared.key.VehicleKey.{VehicleKey}
use Rattle.agv_layout.specs.declared.station.StationSite.{StationSite}
use Rattle.agv_message_core.specs.declared.order.ActKind.{ActKind}
use Rattle.agv_message_core.specs.declared.order.ActKind.TheVariants.{Pick, Drop}
use Rattle.agv_order.specs.Statuses.{is_finished}
use Rattle.agv_order.specs.declared.act.Act.{Act}
use Rattle.agv_stock.specs.Phase.{is_live}
use Rattle.agv_stock.specs.Rooms.{is_at, is_on}
use Rattle.agv_stock.specs.declared.job.Phase.{Phase}
use Rattle.agv_stock.specs.declared.job.Phase.TheVariants as phase
use Rattle.agv_stock.specs.declared.place.Place.{Place}
use Rattle.agv_stock.specs.declared.place.Place.TheVariants as place
use Rattle.agv_world_core.specs.Carriers.{is_drop_of}
use Rattle.agv_world_core.specs.Lawful.{is_to_drop, station_for}
use Rattle.agv_world_core.specs.Told.{names_vehicle}
use Rattle.agv_world_core.specs.declared.row.JobRow.{JobRow}
use Rattle.agv_world_core.specs.declared.row.TripRow.{TripRow}
use Rattle.agv_world_core.specs.declared.row.VehicleRow.{VehicleRow}
use Rattle.agv_world_core.specs.declared.world.World.{World as Tables}

-- at most 1,000,000 loads and 1,000,000 jobs
abbrev pub are_loads_few : Tables → Bool
are_loads_few tables = nat_le (finite.len tables.loads) most_records && nat_le (finite.len tables.jobs) most_records

-- ---- what places and jobs name

-- the station is known
abbrev pub has_station : Tables → List ℕ → Bool
has_station tables id = is_some (finite.get tables.stations id)

-- the station or the vehicle of a place is known
abbrev pub is_place : Tables → Place → Bool
is_place tables (place.Station id) = has_station tables id
is_place tables (place.Vehicle key) = is_some (finite.get tables.vehicles key)
is_place tables place.Checking = true
is_place tables place.Left = true

-- the station or the vehicle of each load's place is known
abbrev pub are_places : Tables → Bool
are_places tables = list_all (λ (entry : List ℕ × Place). is_place tables entry.1) (finite.entries tables.loads)

-- the load and the stations of a job are known
abbrev pub is_job : Tables → JobRow → Bool
is_job tables row = is_some (finite.get tables.loads row.load) && (has_station tables row.origin && has_station tables row.target)

-- the load is at this station
abbrev pub is_placed_at : List ℕ → Option Place → Bool
is_placed_at station None = false
is_placed_at station (Some place) = is_at station place

-- the load is on this vehicle
abbrev pub is_placed_on : VehicleKey → Option Place → Bool
is_placed_on key None = false
is_placed_on key (Some place) = is_on key place

-- the trip of the row has an unfinished drop of the job
abbrev pub is_dropped_by : List ℕ → List ℕ × TripRow → Bool
is_dropped_by job entry = list_any (is_drop_of job) entry.1.acts

-- some open trip has an unfinished drop of the job
abbrev pub is_carried : Tables → List ℕ → Bool
is_carried tables job = list_any (is_dropped_by job) (finite.entries tables.trips)

-- the load of a waiting job is at the origin, and some open trip has an unfinished drop of a riding one
abbrev pub is_in_phase : Tables → List ℕ → JobRow → Phase → Bool
is_in_phase tables job row phase.Waiting = is_placed_at row.origin (finite.get tables.loads row.load)
is_in_phase tables job row phase.Riding = is_carried tables job
is_in_phase tables job row phase.Done = true
is_in_phase tables job row phase.Stopped = true

-- the row of a job follows the rules: its names are known, and its phase agrees with its load and its trip
abbrev pub is_job_row : Tables → List ℕ × JobRow → Bool
is_job_row tables entry = is_job tables entry.1 && is_in_phase tables entry.0 entry.1 entry.1.phase

-- each row of a job follows the rules
abbrev pub are_jobs : Tables → Bool
are_jobs tables = list_all (is_job_row tables) (finite.entries tables.jobs)

-- ---- one live job for a load

-- the loads of the live jobs are all different, and none of them is noted yet
abbrev pub is_each_new : set.FinSet name_cmp → List (List ℕ × JobRow) → Bool
is_each_new noted [] = true
is_each_new noted (job ∷ jobs) =
    if is_live job.1.phase
    then not (set.contains noted job.1.load) && is_each_new (set.insert noted job.1.load) jobs
    else is_each_new noted jobs

-- no load has two live jobs
abbrev pub has_one_job_each : Tables → Bool
has_one_job_each tables = is_each_new set.empty (finite.entries tables.jobs)

-- ---- acts and their jobs

-- the load is at the job's origin, or on the vehicle if its pick is finished
abbrev pub is_carried_at : VehicleKey → List ℕ → Bool → Option Place → Bool
is_carried_at key origin false place = is_placed_at origin place
is_carried_at key origin true place = is_placed_on key place

-- a job with this phase is riding
abbrev pub is_riding : Phase → Bool
is_riding phase.Waiting = false
is_riding phase.Riding = true
is_riding phase.Done = false
is_riding phase.Stopped = false

-- a job with this phase is done
abbrev pub is_done : Phase → Bool
is_done phase.Waiting = false
is_done phase.Riding = false
is_done phase.Done = true
is_done phase.Stopped = false

-- the job and its load agree with the act: for a pick, the load of a live job is where the pick says; for a drop, the job is done if the drop is finished, and riding otherwise
abbrev pub is_as_acted : Tables → VehicleKey → JobRow → ActKind → Bool → Bool
is_as_acted tables key row Pick finished = not (is_live row.phase) || is_carried_at key row.origin finished (finite.get tables.loads row.load)
is_as_acted tables key row Drop false = is_riding row.phase
is_as_acted tables key row Drop true = is_done row.phase

-- the act names the load and the station of its job
abbrev pub names_its_job : JobRow → Act → Bool
names_its_job row act = pointwise nat_eq row.load act.load && pointwise nat_eq (station_for act.kind row) act.station

-- the act has a job, and agrees with it
abbrev pub is_act_of : Tables → VehicleKey → Act → Option JobRow → Bool
is_act_of tables key act None = false
is_act_of tables key act (Some row) = names_its_job row act && is_as_acted tables key row act.kind (is_finished act.status)

-- the act has a job in the tables, and agrees with it
abbrev pub is_act : Tables → VehicleKey → Act → Bool
is_act tables key act = is_act_of tables key act (finite.get tables.jobs act.job)

-- each act of each open trip agrees with its job
abbrev pub are_acts : Tables → Bool
are_acts tables = list_all (λ (entry : List ℕ × TripRow). list_all (is_act tables entry.1.vehicle) entry.1.acts) (finite.entries tables.trips)

-- the two acts are of the same job
abbrev pub is_same_job : Act → Act → Bool
is_same_job act other = pointwise nat_eq act.job other.job

-- some act of the first list is of the same job as some act of the second
abbrev pub is_shared : List Act → List Act → Bool
is_shared acts others = list_any (λ (act : Act). list_any (is_same_job act) others) acts

-- the trips are of the same vehicle, or have no job in common
abbrev pub is_apart_from : List ℕ × TripRow → List ℕ × TripRow → Bool
is_apart_from entry other = key_eq entry.1.vehicle other.1.vehicle || not (is_shared entry.1.acts other.1.acts)

-- no two vehicles have a job in common in their open trips
abbrev pub are_jobs_apart : Tables → Bool
are_jobs_apart tables =
    list_all (λ (entry : List ℕ × TripRow). list_all (is_apart_from entry) (finite.entries tables.trips)) (finite.entries tables.trips)

-- ---- room at stations

-- a count for each name
abbrev pub Tally : Type 0
Tally = finite.FinMap name_cmp ℕ

-- the count of a name, or 0 if it was not counted
abbrev pub tallied : Tally → List ℕ → ℕ
tallied tally name = unwrap_or (finite.get tally name) 0

-- one more, but at most 1000: that is more than any station has room for
abbrev pub one_on : ℕ → ℕ
one_on n = if nat_lt n 1000 then n + 1 else n

-- the tally with the name counted once more
abbrev pub with_one : Tally → List ℕ → Tally
with_one tally name = finite.insert tally name (one_on (tallied tally name))

-- the tally with the place's station counted, if it is one
abbrev pub with_place : Tally → Place → Tally
with_place tally (place.Station id) = with_one tally id
with_place tally (place.Vehicle key) = tally
with_place tally place.Checking = tally
with_place tally place.Left = tally

-- the tally with each load counted at its station
abbrev pub with_loads : Tally → List (List ℕ × Place) → Tally
with_loads tally [] = tally
with_loads tally (load ∷ loads) = with_loads (with_place tally load.1) loads

-- the tally with the job counted at its target, if the job is live
abbrev pub with_job : Tally → JobRow → Tally
with_job tally row = if is_live row.phase then with_one tally row.target else tally

-- the tally with each live job counted at its target
abbrev pub with_jobs : Tally → List (List ℕ × JobRow) → Tally
with_jobs tally [] = tally
with_jobs tally (job ∷ jobs) = with_jobs (with_job tally job.1) jobs

-- the number of loads and live jobs for each station
abbrev pub tally_of : Tables → Tally
tally_of tables = with_jobs (with_loads finite.empty (finite.entries tables.loads)) (finite.entries tables.jobs)

-- the loads at each station and the live jobs to it together are at most its capacity
abbrev pub have_room : Tables → Bool
have_room tables = list_all (λ (station : List ℕ × StationSite). nat_le (tallied (tally_of tables) station.0) station.1.capacity) (finite.entries tables.stations)

-- ---- capacity of vehicles

-- the acts have an unfinished drop of the load
abbrev pub is_load_by : List ℕ → List Act → Bool
is_load_by load acts = list_any (λ (act : Act). is_to_drop act && pointwise nat_eq act.load load) acts

-- the number of loads on the vehicle without an unfinished drop among the acts
abbrev pub loads_of_others : Tables → VehicleKey → List Act → ℕ
loads_of_others tables key acts = count_by (λ (load : List ℕ × Place). is_on key load.1 && not (is_load_by load.0 acts)) (finite.entries tables.loads)

-- the place is a vehicle
abbrev pub is_on_vehicle : Place → Bool
is_on_vehicle (place.Station id) = false
is_on_vehicle (place.Vehicle key) = true
is_on_vehicle place.Checking = false
is_on_vehicle place.Left = false

-- the loads on vehicles
abbrev pub loads_on_vehicles : Tables → List (List ℕ × Place)
loads_on_vehicles tables = filter (λ (load : List ℕ × Place). is_on_vehicle load.1) (finite.entries tables.loads)

-- the number of these loads that are on the vehicle without an unfinished drop among the acts
abbrev pub loads_of_others_among : List (List ℕ × Place) → VehicleKey → List Act → ℕ
loads_of_others_among loads key acts = count_by (λ (load : List ℕ × Place). is_on key load.1 && not (is_load_by load.0 acts)) loads

-- the vehicle has the capacity for its other loads, among these, and for the unfinished drops among the acts
abbrev pub is_within_capacity_among : List (List ℕ × Place) → VehicleKey × VehicleRow → List Act → Bool
is_within_capacity_among loads entry acts = nat_le (loads_of_others_among loads entry.0 acts + count_by is_to_drop acts) entry.1.capacity

-- the acts of a row, or none if there is no row
abbrev pub acts_in : Option (List ℕ × TripRow) → List Act
acts_in None = []
acts_in (Some entry) = entry.1.acts

-- the vehicle has the capacity for its other loads and for the unfinished drops among the acts
abbrev pub is_within_capacity : Tables → VehicleKey × VehicleRow → List Act → Bool
is_within_capacity tables entry acts = nat_le (loads_of_others tables entry.0 acts + count_by is_to_drop acts) entry.1.capacity

-- the acts of a vehicle's open trip, or none if it has no trip
abbrev pub acts_of : Tables → VehicleKey → List Act
acts_of tables key = acts_in (find (names_vehicle key) (finite.entries tables.trips))

-- each vehicle has the capacity for its other loads and for the unfinished drops of its trip
abbrev pub are_within_capacity : Tables → Bool
are_within_capacity tables = list_all (λ (entry : VehicleKey × VehicleRow). is_within_capacity tables entry (acts_of tables entry.0)) (finite.entries tables.vehicles)

-- each vehicle has the capacity for its other loads, among these, and for the unfinished drops of its trip
abbrev pub are_within_capacity_among : Tables → List (List ℕ × Place) → Bool
are_within_capacity_among tables loads = list_all (λ (entry : VehicleKey × VehicleRow). is_within_capacity_among loads entry (acts_of tables entry.0)) (finite.entries tables.vehicles)

-- ---- the loads and the jobs

-- all of the tests above
abbrev pub are_lawful_loads : Tables → Bool
are_lawful_loads tables =
    are_loads_few tables
    && (are_places tables
    && (are_jobs tables
    && (has_one_job_each tables
    && (are_acts tables
    && (are_jobs_apart tables
    && (have_room tables
    && are_within_capacity tables))))))
