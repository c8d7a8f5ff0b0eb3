-- The trips that the rows of journeys and acts encode, together with the jobs.
use Rattle.std.specs.Prelude.{◌≡◌, ℕ, ◌+◌, nat_eq, List, [], ◌∷◌, Option, None, Some, if◌then◌else◌}
use Rattle.std.specs.FinMap as finite
use Rattle.std.specs.List.{AllByRecursion}
use Rattle.std.specs.Option.{option_and_then, option_map}
use Rattle.agv_header.specs.Name.{name_cmp}
use Rattle.agv_order.specs.declared.act.Act.{Act}
use Rattle.agv_world_core.specs.Lawful.{station_for}
use Rattle.agv_world_core.specs.declared.row.JobRow.{JobRow}
use Rattle.agv_world_core.specs.declared.row.TripRow.{TripRow}
use Rattle.agv_store_rows.specs.ActKeys.{act_cmp}
use Rattle.agv_store_rows.specs.TripRows.{journeys_of, acts_of}
use Rattle.agv_store_rows.specs.declared.act_key.ActKey.{ActKey}
use Rattle.agv_store_rows.specs.declared.act_row.ActRow.{ActRow}
use Rattle.agv_store_rows.specs.declared.journey_row.JourneyRow.{JourneyRow}

-- the act of a row and the row of its job: its load is the job's, and its station is the job's origin for a pick and the job's target for a drop
abbrev pub act_told : ActRow → JobRow → Act
act_told row job = record { kind = row.kind; job = row.job; load = job.load; station = station_for row.kind job; place_at = row.place_at; status = row.status }

-- the trip of a journey with these acts
abbrev pub trip_told : JourneyRow → List Act → TripRow
trip_told journey acts = record {
  vehicle = journey.vehicle;
  start = journey.start;
  first = journey.first;
  base = journey.base;
  sent = journey.sent;
  confirmed = journey.confirmed;
  seen = journey.seen;
  acts = acts;
}

-- the acts of rows that are numbered from n; none if a number is missing or a job is unknown
abbrev pub acts_told : finite.FinMap name_cmp JobRow → ℕ → List (ActKey × ActRow) → Option (List Act)
acts_told jobs n [] = Some []
acts_told jobs n (row ∷ rows) =
    if nat_eq row.0.n n
    then option_and_then (λ (job : JobRow). option_map (λ (acts : List Act). act_told row.1 job ∷ acts) (acts_told jobs (n + 1) rows)) (finite.get jobs row.1.job)
    else None

-- the act has the load and the station of its job, which is known
pub record IsOfJob (jobs : finite.FinMap name_cmp JobRow) (act : Act) : Type 0 where
  pub job : JobRow
  pub known : finite.get jobs act.job ≡ Some job
  pub load : job.load ≡ act.load
  pub station : station_for act.kind job ≡ act.station

-- the tables have exactly the rows of these trips, and each act is of one of these jobs
pub record AreTripsOf (journeys : finite.FinMap name_cmp JourneyRow) (acts : finite.FinMap act_cmp ActRow) (jobs : finite.FinMap name_cmp JobRow) (trips : finite.FinMap name_cmp TripRow) : Type 0 where
  pub has_journeys : journeys ≡ journeys_of trips
  pub has_acts : acts ≡ acts_of trips
  pub of_jobs : (order : List ℕ) (trip : TripRow) → finite.get trips order ≡ Some trip → AllByRecursion (IsOfJob jobs) trip.acts
