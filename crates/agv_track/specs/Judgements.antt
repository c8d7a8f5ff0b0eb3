-- How a state is judged against the trip of its vehicle: which states are refused, and the trip's progress after the others (VDA 5050 2.0, state; this project's profile).
use Rattle.std.specs.Prelude.{ℕ, ◌==◌, nat_lt, Bool, not, ◌&&◌, ◌||◌, if◌then◌else◌, List, [], ◌∷◌, map, length, is_some, Option, None, Some, Result, Ok, Err}
use Rattle.std.specs.List.{list_all, list_any, zip, slice_get, range_with_len}
use Rattle.std.specs.Option.{option_map, unwrap_or}
use Rattle.agv_header.specs.declared.refusal.Refusal.{Refusal}
use Rattle.agv_header.specs.declared.refusal.Refusal.TheVariants.{UpdateNotSent, UpdateBackwards, NotOurNode, Backwards, BeyondBase, ActionTwice, ActionBackwards, ActionEarly, DropFirst, CancelEarly}
use Rattle.agv_layout.specs.declared.edge.Edge.{Edge}
use Rattle.agv_message_core.specs.declared.state.StateMessage.{StateMessage}
use Rattle.agv_message_core.specs.declared.status.Status.{Status}
use Rattle.agv_message_core.specs.declared.status.Status.TheVariants.{Waiting}
use Rattle.agv_order.specs.Statuses.{is_finished, is_active, merge}
use Rattle.agv_order.specs.WellFormed.{is_reached, is_in_turn, is_over}
use Rattle.agv_order.specs.declared.act.Act.{Act}
use Rattle.agv_order.specs.declared.trip.Trip.{Trip}
use Rattle.agv_track.specs.Reached.{reported_node, is_our_node, is_before, base_of}
use Rattle.agv_track.specs.Reports.{has_act_twice, statuses_after, renewed, has_pending_twice, is_pending_over, is_cancelled}
use Rattle.agv_track.specs.declared.pending.Pending.{Pending}
use Rattle.agv_track.specs.declared.progress.End.{End}
use Rattle.agv_track.specs.declared.progress.End.TheVariants.{Done, Stopped}
use Rattle.agv_track.specs.declared.progress.Progress.{Progress}

-- ---- the acts after the state

-- the statuses of the trip's acts after the state
abbrev pub new_statuses : Trip → StateMessage → List Status
new_statuses trip state = statuses_after state.actions trip.order trip.acts

-- the trip's acts after the state
abbrev pub new_acts : Trip → StateMessage → List Act
new_acts trip state = renewed trip.acts (new_statuses trip state)

-- the new status can't follow the old one
abbrev pub goes_back : Act × Status → Bool
goes_back renewed = not (is_some (merge renewed.0.status renewed.1))

-- the act has begun and is not over
abbrev pub is_running : Act → Bool
is_running act = is_active act.status

-- the act is finished: the load was picked or dropped
abbrev pub is_carried_out : Act → Bool
is_carried_out act = is_finished act.status

-- ---- refusals: each line is a condition, and the refusal of a state that meets it

-- the refusals of the reported update and node, in their order
unfoldable pub way_refusals : Trip → StateMessage → List (Bool × Refusal)
way_refusals trip state =
    (nat_lt trip.sent state.update, UpdateNotSent)
    ∷ (is_before state.update trip.confirmed, UpdateBackwards)
    ∷ (not (is_our_node trip state), NotOurNode)
    ∷ (nat_lt (reported_node state) trip.seen, Backwards)
    ∷ (nat_lt (base_of trip state.update) (reported_node state), BeyondBase)
    ∷ []

-- the refusals of the listed actions, in their order
unfoldable pub act_refusals : Trip → Option Pending → StateMessage → List (Bool × Refusal)
act_refusals trip pending state =
    (has_act_twice state.actions trip.order trip.acts || has_pending_twice state.actions pending, ActionTwice)
    ∷ (list_any goes_back (zip trip.acts (new_statuses trip state)), ActionBackwards)
    ∷ (not (list_all (is_reached (reported_node state)) (new_acts trip state)), ActionEarly)
    ∷ (not (list_all (is_in_turn (new_acts trip state)) (new_acts trip state)), DropFirst)
    ∷ (is_cancelled state.actions pending && list_any is_running (new_acts trip state), CancelEarly)
    ∷ []

-- the first refusal whose condition is met
abbrev pub first_of : List (Bool × Refusal) → Option Refusal
first_of [] = None
first_of (line ∷ lines) = if line.0 then Some line.1 else first_of lines

-- ---- the progress after the state

-- status n, or Waiting if there is none
abbrev pub nth_status : List Status → ℕ → Status
nth_status statuses n = unwrap_or (slice_get statuses n) Waiting

-- the first eight of the statuses, filled up with Waiting
unfoldable pub eight : List Status → List Status
eight statuses = map (nth_status statuses) (range_with_len 0 8)

-- the vehicle has reached the last node, and every act is over
abbrev pub is_through : Trip → StateMessage → Bool
is_through trip state = reported_node state == length trip.edges && list_all is_over (new_acts trip state)

-- how the trip ends: Done if every act is finished, otherwise Stopped
abbrev pub end_by : List Act → End
end_by acts = if list_all is_carried_out acts then Done else Stopped

-- how the trip ends, if it is through or, otherwise, if it is cancelled
abbrev pub end_after : Trip → Option Pending → StateMessage → Option End
end_after trip pending state =
    if is_through trip state then Some (end_by (new_acts trip state))
    else (if is_cancelled state.actions pending then Some Stopped else None)

-- the edge from node k to node k + 1 and that node, if they are released
abbrev pub next_of : Trip → ℕ → Option (List ℕ × List ℕ)
next_of trip k = if nat_lt k trip.base then option_map (λ (edge : Edge). (edge.id, edge.finish)) (slice_get trip.edges k) else None

-- the rest: the next edge and node, to which a vehicle whose order is cancelled before its end may have gone on
abbrev pub rest_after : Trip → Option Pending → StateMessage → Option (List ℕ × List ℕ)
rest_after trip pending state =
    if not (is_through trip state) && is_cancelled state.actions pending then next_of trip (reported_node state) else None

-- the progress of the trip after a state that is accepted
unfoldable pub progress_of : Trip → Option Pending → StateMessage → Progress
progress_of trip pending state = record {
  seen = reported_node state;
  confirmed = state.update;
  statuses = eight (new_statuses trip state);
  pending_over = is_pending_over state.actions pending;
  «end» = end_after trip pending state;
  rest = rest_after trip pending state;
}

-- the refusal, if there is one, otherwise the result
abbrev pub unless : {T : Type 0} → Option Refusal → Result T Refusal → Result T Refusal
unless None result = result
unless (Some refusal) result = Err refusal

-- the first refusal of the state, for its way and then for its acts, or the progress of the trip
unfoldable pub judged : Trip → Option Pending → StateMessage → Result Progress Refusal
judged trip pending state =
    unless (first_of (way_refusals trip state)) (unless (first_of (act_refusals trip pending state)) (Ok (progress_of trip pending state)))
