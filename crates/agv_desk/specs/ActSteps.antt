-- What happens to the loads and the jobs of a trip as its acts are carried out, and as it ends (VDA 5050 2.0, actionStates; this project's profile).
use Rattle.std.specs.Prelude.{ℕ, ◌&&◌, not, Bool, true, if◌then◌else◌, List, [], map, filter_map, Option, None, Some}
use Rattle.std.specs.FinMap as finite
use Rattle.std.specs.Option.{option_map}
use Rattle.agv_header.specs.declared.key.VehicleKey.{VehicleKey}
use Rattle.agv_message_core.specs.declared.order.ActKind.{ActKind}
use Rattle.agv_message_core.specs.declared.order.ActKind.TheVariants.{Pick, Drop}
use Rattle.agv_message_core.specs.declared.status.Status.{Status}
use Rattle.agv_order.specs.Statuses.{is_finished}
use Rattle.agv_order.specs.Stops.{is_drop}
use Rattle.agv_order.specs.declared.act.Act.{Act}
use Rattle.agv_order.specs.declared.trip.Trip.{Trip}
use Rattle.agv_stock.specs.declared.job.Phase.{Phase}
use Rattle.agv_stock.specs.declared.job.Phase.TheVariants as phase
use Rattle.agv_stock.specs.declared.place.Place.{Place}
use Rattle.agv_stock.specs.declared.place.Place.TheVariants as place
use Rattle.agv_world_core.specs.Worlds.{World}
use Rattle.agv_world_core.specs.declared.row.JobRow.{JobRow}
use Rattle.agv_desk.specs.Outcomes.{Move, Acted}

-- an act, and its status after a state
abbrev pub Renewed : Type 0
Renewed = Act × Status

-- the act becomes finished
abbrev pub becomes_finished : Renewed → Bool
becomes_finished act = is_finished act.1 && not (is_finished act.0.status)

-- ---- loads

-- where an act takes its load: a pick to the vehicle, and a drop to the station
abbrev pub taken_to : VehicleKey → ActKind → List ℕ → Place
taken_to key Pick station = place.Vehicle key
taken_to key Drop station = place.Station station

-- the move of an act, if it becomes finished
abbrev pub act_move : VehicleKey → List ℕ → Renewed → Option Move
act_move key order act =
    if becomes_finished act then Some (record {
      load = act.0.load;
      place = taken_to key act.0.kind act.0.station;
      cause = Acted act.0.kind order act.0.job;
    }) else None

-- the moves of the acts that become finished, in their order
abbrev pub act_moves : VehicleKey → List ℕ → List Renewed → List Move
act_moves key order acts = filter_map (act_move key order) acts

-- ---- jobs

-- the phase to which a drop changes its job: done if the drop becomes finished; stopped if the trip has ended and the drop is not finished; otherwise none
abbrev pub phase_by : Bool → Renewed → Option Phase
phase_by ended act =
    if not (is_drop act.0.kind) then None
    else (if becomes_finished act then Some phase.Done
    else (if ended && not (is_finished act.1) then Some phase.Stopped else None))

-- the job with this phase, if there is a phase and the job is known
abbrev pub job_in : World → List ℕ → Option Phase → Option (List ℕ × JobRow)
job_in world job None = None
job_in world job (Some new) = option_map (λ (row : JobRow). (job, record row { phase = new })) (finite.get world.jobs job)

-- the job of an act, if its phase changes
abbrev pub act_job : World → Bool → Renewed → Option (List ℕ × JobRow)
act_job world ended act = job_in world act.0.job (phase_by ended act)

-- the jobs whose phases change, in the order of the acts
abbrev pub act_jobs : World → Bool → List Renewed → List (List ℕ × JobRow)
act_jobs world ended acts = filter_map (act_job world ended) acts

-- an act with the status that it has
abbrev pub as_it_is : Act → Renewed
as_it_is act = (act, act.status)

-- the jobs that stop if a trip ends with its acts as they are
abbrev pub jobs_stopped : World → Option Trip → List (List ℕ × JobRow)
jobs_stopped world None = []
jobs_stopped world (Some trip) = act_jobs world true (map as_it_is trip.acts)
