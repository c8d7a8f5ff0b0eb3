-- A state message of a vehicle (VDA 5050 2.0, state; this project's profile). It does not depend on places, rooms or holders.
use Rattle.std.specs.Prelude.{nat_eq, Bool, true, false, is_none, is_some, if◌then◌else◌, Option, None, Some, Result, Ok, Err}
use Rattle.std.specs.Cmp.Lexicographic.{pointwise}
use Rattle.std.specs.List.{zip}
use Rattle.std.specs.Option.{option_map, unwrap_or}
use Rattle.agv_header.specs.Count.{is_fresh}
use Rattle.agv_header.specs.Name.{as_name}
use Rattle.agv_header.specs.declared.key.VehicleKey.{VehicleKey}
use Rattle.agv_header.specs.declared.refusal.Refusal.{Refusal}
use Rattle.agv_header.specs.declared.refusal.Refusal.TheVariants as refusal
use Rattle.agv_message_core.specs.declared.instant.InstantKind.{InstantKind}
use Rattle.agv_message_core.specs.declared.state.StateMessage.{StateMessage}
use Rattle.agv_order.specs.Trips.{node_at}
use Rattle.agv_order.specs.declared.trip.Trip.{Trip}
use Rattle.agv_track.specs.Idle.{judged_idle}
use Rattle.agv_track.specs.Judgements.{judged}
use Rattle.agv_track.specs.Progressed.{progressed}
use Rattle.agv_track.specs.declared.pending.Pending.{Pending}
use Rattle.agv_track.specs.declared.progress.Progress.{Progress}
use Rattle.agv_world_core.specs.Questions.{row_of, trip_of}
use Rattle.agv_world_core.specs.Worlds.{Vehicle, World}
use Rattle.agv_world_core.specs.declared.row.VehicleRow.{VehicleRow}
use Rattle.agv_desk.specs.ActSteps.{act_moves, act_jobs}
use Rattle.agv_desk.specs.Outcomes.{Outcome, Refused, Made, RowOnly, Whole, refuse_unless, refuse_if_none, branch, answer_only}
use Rattle.agv_desk.specs.declared.answer.Answer.TheVariants as answer

-- ---- definitions

-- the pending action of a vehicle, with the number of the last instantActions message
abbrev pub pending_of : VehicleRow → Option Pending
pending_of row = option_map (λ (kind : InstantKind). record { kind = kind; number = row.instants.count }) row.pending

-- the row after a state is accepted: its `headerId`, its order if that is a name, whether the vehicle is ready and paused, and no pending action if that is over
abbrev pub with_state : VehicleRow → StateMessage → Bool → VehicleRow
with_state row state over = record row {
  last_header = Some state.header_id;
  reported = as_name state.order_id;
  ready = state.ready;
  paused = state.paused;
  pending = if over then None else row.pending;
}

-- `rest` of what is judged, or the refusal of the judgement
unfoldable pub if_judged : {X : Type 0} → Result X Refusal → (X → Outcome) → Outcome
if_judged (Ok x) rest = rest x
if_judged (Err why) rest = Refused why

-- ---- without a trip

-- the state of an idle vehicle: ActionTwice, NotThere; then its row is written
abbrev pub idle_state : VehicleKey → VehicleRow → StateMessage → Outcome
idle_state key row state =
    if_judged (judged_idle row.node (pending_of row) state) (λ over.
    Made (record (answer_only (answer.Accepted true)) { touched = RowOnly key row (with_state row state over) }))

-- ---- on a trip

-- the trip with its progress, or none if it has ended
abbrev pub trip_left : Trip → Progress → Option Trip
trip_left trip progress = if is_some progress.«end» then None else Some (progressed trip progress)

-- the row after a state on a trip: at the node that is reached; if the trip is cancelled, possibly with the next edge and node as its rest
abbrev pub row_after : VehicleRow → Trip → StateMessage → Progress → VehicleRow
row_after row trip state progress = record (with_state row state progress.pending_over) {
  node = unwrap_or (node_at trip progress.seen) row.node;
  rest = progress.rest;
}

-- the vehicle after a state on its trip
abbrev pub driven : VehicleRow → Trip → StateMessage → Progress → Vehicle
driven row trip state progress = record { row = row_after row trip state progress; trip = trip_left trip progress }

-- the state of a vehicle on its trip: the refusals of the judgement; or the trip goes on or ends, the acts that become finished move their loads, and the jobs are done or stop
abbrev pub trip_state : World → VehicleKey → VehicleRow → Trip → StateMessage → Outcome
trip_state world key row trip state =
    if_judged (judged trip (pending_of row) state) (λ progress.
    Made (record (answer_only (answer.Accepted true)) {
      touched = Whole key (Some (record { row = row; trip = Some trip })) (driven row trip state progress);
      moves = act_moves key trip.order (zip trip.acts progress.statuses);
      jobs = act_jobs world (is_some progress.«end») (zip trip.acts progress.statuses);
    }))

-- ---- the call

-- a state newer than the last: judged against the open trip if it names its order; OtherOrder if it names another one and the trip is confirmed; otherwise as of an idle vehicle
abbrev pub fresh_state : World → VehicleKey → VehicleRow → Option Trip → StateMessage → Outcome
fresh_state world key row None state = idle_state key row state
fresh_state world key row (Some trip) state =
    branch (pointwise nat_eq trip.order state.order_id) (trip_state world key row trip state)
    (refuse_unless (is_none trip.confirmed) refusal.OtherOrder (idle_state key row state))

-- POST /uagv/v2/{m}/{s}/state: NoVehicle; a state that is not newer changes nothing; then `fresh_state`
abbrev pub take_state : World → VehicleKey → StateMessage → Outcome
take_state world key state =
    refuse_if_none (row_of world key) refusal.NoVehicle (λ row.
    branch (is_fresh row.last_header state.header_id) (fresh_state world key row (trip_of world key) state)
    (Made (answer_only (answer.Accepted false))))
