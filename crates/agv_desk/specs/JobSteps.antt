-- The calls of jobs (this project's profile).
use Rattle.std.specs.Prelude.{ℕ, nat_lt, Bool, true, false, is_some, List, [], ◌∷◌, Some}
use Rattle.std.specs.FinMap as finite
use Rattle.agv_header.specs.Limits.{most_records}
use Rattle.agv_header.specs.declared.refusal.Refusal.TheVariants as refusal
use Rattle.agv_stock.specs.Checks.{job_check}
use Rattle.agv_stock.specs.Rooms.{station_of_place}
use Rattle.agv_stock.specs.declared.job.Phase.{Phase}
use Rattle.agv_stock.specs.declared.job.Phase.TheVariants as phase
use Rattle.agv_world_core.specs.Questions.{count_of}
use Rattle.agv_world_core.specs.Worlds.{World}
use Rattle.agv_world_core.specs.declared.floor.Counted.TheVariants as counted
use Rattle.agv_world_core.specs.declared.row.JobRow.{JobRow}
use Rattle.agv_desk.specs.Outcomes.{Outcome, Effect, Made, refuse_unless, refuse_if_none, checked, answer_only}
use Rattle.agv_desk.specs.Shared.{goal_of, is_in_job}
use Rattle.agv_desk.specs.declared.answer.Answer.TheVariants as answer

-- the effect of writing the job
abbrev pub job_written : List ℕ → JobRow → Effect
job_written job row = record (answer_only answer.Done) { jobs = (job, row) ∷ [] }

-- the job waits for a vehicle
abbrev pub is_waiting : Phase → Bool
is_waiting phase.Waiting = true
is_waiting phase.Riding = false
is_waiting phase.Done = false
is_waiting phase.Stopped = false

-- POST /jobs: Exists, NoLoad, NoStation, Elsewhere if the load is at no station, InJob, SameStation, Full, Limit
abbrev pub add_job : World → List ℕ → List ℕ → List ℕ → Outcome
add_job world job load to =
    checked (job_check (is_some (finite.get world.jobs job)) (finite.get world.places load) (is_in_job world load) (goal_of world (Some to)))
    (refuse_if_none (station_of_place (finite.get world.places load)) refusal.Elsewhere (λ origin.
    refuse_unless (nat_lt (count_of world counted.Jobs) most_records) refusal.Limit
    (Made (job_written job (record { load = load; origin = origin; target = to; phase = phase.Waiting })))))

-- DELETE /jobs/{job}: NoJob, JobState if the job is not waiting
abbrev pub stop_job : World → List ℕ → Outcome
stop_job world job =
    refuse_if_none (finite.get world.jobs job) refusal.NoJob (λ row.
    refuse_unless (is_waiting row.phase) refusal.JobState
    (Made (job_written job (record row { phase = phase.Stopped }))))
