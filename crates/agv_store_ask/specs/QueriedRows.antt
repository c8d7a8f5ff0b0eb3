-- The results of the look-ups and counts by columns other than the key, in lists that have the rows of the maps of a world.
use Rattle.std.specs.Prelude.{ℕ, ◌&&◌, nat_eq, Bool, List, [], ◌∷◌, filter, map, IsPermutation}
use Rattle.std.specs.Cmp.Lexicographic.{pointwise}
use Rattle.std.specs.FinMap as finite
use Rattle.sqlite_value.specs.declared.value.Value.TheVariants.{Text}
use Rattle.sqlite_value.specs.Order.{Row}
use Rattle.agv_header.specs.declared.key.VehicleKey.{VehicleKey}
use Rattle.agv_stock.specs.Rooms.{is_at, is_on}
use Rattle.agv_stock.specs.declared.job.Phase.{Phase}
use Rattle.agv_stock.specs.declared.place.Place.{Place}
use Rattle.agv_world_core.specs.Maps.{Maps}
use Rattle.agv_world_core.specs.Told.{is_of_order}
use Rattle.agv_world_core.specs.declared.key.LegKey.{LegKey}
use Rattle.agv_world_core.specs.declared.row.JobRow.{JobRow}
use Rattle.agv_store_rows.specs.TripRows.{acts_of, is_of, journeys_of}
use Rattle.agv_store_rows.specs.declared.journey_row.JourneyRow.{JourneyRow}
use Rattle.agv_stock.specs.Phase.{phase_name}
use Rattle.agv_store_rows.specs.Columns.{job_columns, leg_columns, load_columns, journey_columns}
use Rattle.agv_store_rows.specs.RowKeys.{name_key, vehicle_key}
use Rattle.agv_store_rows.specs.Rows.{rows_of_acts}
use Rattle.agv_store_sql.specs.CountQueries.{rows_counted}
use Rattle.agv_store_sql.specs.RowQueries.{rows_asked}
use Rattle.agv_store_rows.specs.DecodedTrips.{is_driven_by}
use Rattle.agv_store_schema.specs.declared.rows_by.RowsBy.TheVariants as by
use Rattle.agv_store_schema.specs.declared.rows_counted.RowsCounted.TheVariants as counted

-- ---- the entries that are queried

-- the rows of these loads
abbrev pub loads_shown : List (List ℕ × Place) → List Row
loads_shown loads = map (λ (load : List ℕ × Place). load_columns load.0 load.1) loads

-- the rows of these jobs
abbrev pub jobs_shown : List (List ℕ × JobRow) → List Row
jobs_shown jobs = map (λ (job : List ℕ × JobRow). job_columns job.0 job.1) jobs

-- the rows of these edges of open trips
abbrev pub legs_shown : List (LegKey × List ℕ) → List Row
legs_shown legs = map (λ (leg : LegKey × List ℕ). leg_columns leg.0 leg.1) legs

-- the rows of these journeys
abbrev pub journeys_shown : List (List ℕ × JourneyRow) → List Row
journeys_shown journeys = map (λ (journey : List ℕ × JourneyRow). journey_columns journey.0 journey.1) journeys

-- the job is in this phase; each phase has a word of its own
abbrev pub is_in_phase : Phase → JobRow → Bool
is_in_phase phase job = pointwise nat_eq (phase_name job.phase) (phase_name phase)

-- the values by which jobs are queried or counted: a name and a phase
abbrev pub name_and_phase : List ℕ → Phase → Row
name_and_phase name phase = Text name ∷ Text (phase_name phase) ∷ []

-- ---- the results

-- each look-up returns, and each count counts, the rows of exactly those entries, in some order
pub record ShowAsked (lists : List (List Row)) (maps : Maps) : Type 0 where
  pub journey : (key : VehicleKey) → IsPermutation (rows_asked by.VehicleJourney (vehicle_key key) lists) (journeys_shown (filter (is_driven_by key) (finite.entries (journeys_of maps.trips))))
  pub acts : (order : List ℕ) → IsPermutation (rows_asked by.OrderActs (name_key order) lists) (rows_of_acts (filter (is_of order) (finite.entries (acts_of maps.trips))))
  pub legs : (order : List ℕ) → IsPermutation (rows_asked by.OrderLegs (name_key order) lists) (legs_shown (filter (is_of_order order) (finite.entries maps.legs)))
  pub loads_at : (station : List ℕ) → IsPermutation (rows_asked by.StationLoads (name_key station) lists) (loads_shown (filter (λ (load : List ℕ × Place). is_at station load.1) (finite.entries maps.loads)))
  pub loads_on : (key : VehicleKey) → IsPermutation (rows_counted counted.VehicleLoads (vehicle_key key) lists) (loads_shown (filter (λ (load : List ℕ × Place). is_on key load.1) (finite.entries maps.loads)))
  pub jobs_of : (load : List ℕ) (phase : Phase)
      → IsPermutation (rows_asked by.LoadJobs (name_and_phase load phase) lists) (jobs_shown (filter (λ (job : List ℕ × JobRow). pointwise nat_eq job.1.load load && is_in_phase phase job.1) (finite.entries maps.jobs)))
  pub jobs_to : (station : List ℕ) (phase : Phase)
      → IsPermutation (rows_counted counted.TargetJobs (name_and_phase station phase) lists) (jobs_shown (filter (λ (job : List ℕ × JobRow). pointwise nat_eq job.1.target station && is_in_phase phase job.1) (finite.entries maps.jobs)))
