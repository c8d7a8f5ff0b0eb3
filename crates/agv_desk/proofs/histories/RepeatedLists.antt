-- A repeated state message over a list of calls: it moves no load, and changes no hold but where it cancels what was written since.
use Rattle.std.proofs.Common.{◌≡◌, ◌⊎◌, inl, inr, ℕ, true, List, [], ◌∷◌, ◌++◌, Option, None, Some, refl, sym, ap, subst, ◌∙◌, arith}
use Rattle.std.specs.Option.{option_map}
use Rattle.agv_header.specs.declared.key.VehicleKey.{VehicleKey}
use Rattle.agv_message_core.specs.declared.state.StateMessage.{StateMessage}
use Rattle.agv_order.specs.declared.trip.Trip.{Trip}
use Rattle.agv_world_core.proofs.LawfulInParts.{vehicles_of}
use Rattle.agv_world_core.specs.ConsistentTrips.{HasTrip}
use Rattle.agv_world_core.specs.Lawful.{IsLawful}
use Rattle.agv_world_core.specs.Questions.{row_of}
use Rattle.agv_world_core.specs.Maps.{maps_of}
use Rattle.agv_world_core.specs.Worlds.{Vehicle, World}
use Rattle.agv_world_core.specs.declared.row.VehicleRow.{VehicleRow}
use Rattle.agv_desk.specs.Histories.{CancelsSince, HasNoResync, IsRepeated, SpeaksOfTrip}
use Rattle.agv_desk.specs.Outcomes.{after, answer_of, moves_of}
use Rattle.agv_desk.specs.StateSteps.{pending_of, take_state}
use Rattle.agv_desk.specs.Step.{step, steps}
use Rattle.agv_desk.specs.WellTyped.{AreWellTyped}
use Rattle.agv_desk.specs.declared.answer.Answer.TheVariants as answer
use Rattle.agv_desk.specs.declared.call.Call.{Call}
use Rattle.agv_desk.specs.declared.call.Call.TheVariants as call
use Rattle.agv_desk.proofs.histories.AcceptedStates.{leaves_accepted, number_after, trip_after}
use Rattle.agv_desk.proofs.row_changes.Given.{AdvancesTrips}
use Rattle.agv_desk.proofs.histories.AcceptedSince.{IsInstructedSince, accepted_since, instructed_since, told_on}
use Rattle.agv_desk.proofs.lists.InTurn.{world_in_turn}
use Rattle.agv_desk.proofs.outcomes.Known.{none_some}
use Rattle.agv_desk.proofs.outcomes.Ladders.{IfMade}
use Rattle.agv_desk.proofs.histories.LawfulLists.{KeepsLawful, follows_steps, stays_lawful, typed_first, typed_later}
use Rattle.agv_desk.proofs.histories.RepeatedStates.{IsQuiet, holds_quiet, moves_quiet, quiet_again, quiet_old, unchanged_old, world_unchanged}
use Rattle.agv_desk.proofs.histories.SameHolds.{HoldsAreFootprints}
use Rattle.agv_desk.proofs.histories.TripLeft.{PairsAsSaid}

module _ (advances : AdvancesTrips) (fits : PairsAsSaid) (footprints : HoldsAreFootprints) (seats : ℕ) (keeps : KeepsLawful seats) where
  -- the message came after the calls `earlier`, and comes again after those `since`
  module _ (world : World) (earlier since : List (ℕ × Call)) (at : ℕ) (key : VehicleKey) (state : StateMessage) (lawful : IsLawful seats world)
      (typed : AreWellTyped (earlier ++ (at, call.State key state) ∷ since))
      (accepted : answer_of (step seats (steps seats world earlier) at (call.State key state)) ≡ answer.Accepted true) where
    abbrev first : World
    first = steps seats world earlier

    abbrev second : World
    second = after first (step seats first at (call.State key state))

    abbrev now : World
    now = steps seats second since

    first_lawful : IsLawful seats first
    first_lawful = stays_lawful advances fits seats keeps world earlier lawful (typed_first earlier ((at, call.State key state) ∷ since) typed)

    rest_typed : AreWellTyped ((at, call.State key state) ∷ since)
    rest_typed = typed_later earlier ((at, call.State key state) ∷ since) typed

    second_lawful : IsLawful seats second
    second_lawful = keeps first at (call.State key state) first_lawful rest_typed.0 rest_typed.1

    now_lawful : IsLawful seats now
    now_lawful = stays_lawful advances fits seats keeps second since second_lawful rest_typed.2

    -- without a resync since, the message is old
    old_quiet : (exception : Type 0) → HasNoResync key since → IfMade (IsQuiet now exception) (take_state now key state)
    old_quiet exception none =
        let is_accepted = number_after first key state (take_state first key state) (leaves_accepted first key state seats (vehicles_of first_lawful)) accepted in
        quiet_old advances footprints seats now (vehicles_of now_lawful) key state exception state.header_id (omega arith)
        (accepted_since advances fits seats keeps second since second_lawful rest_typed.2 key state.header_id none is_accepted)

    old_unchanged : HasNoResync key since → after now (take_state now key state) ≡ now
    old_unchanged none =
        let is_accepted = number_after first key state (take_state first key state) (leaves_accepted first key state seats (vehicles_of first_lawful)) accepted in
        world_unchanged now (take_state now key state) (unchanged_old now key state state.header_id (omega arith)
        (accepted_since advances fits seats keeps second since second_lawful rest_typed.2 key state.header_id none is_accepted))

    -- a message that was judged against a trip
    told_quiet : (there : Option VehicleRow) → row_of first key ≡ there → (trip : Trip) → HasTrip first key trip → trip.order ≡ state.order_id → IfMade (IsQuiet now (CancelsSince first now key state)) (take_state now key state)
    told_quiet None none trip has ours = none_some (sym none ∙ ap (option_map (λ (vehicle : Vehicle). vehicle.row)) has.1)
    told_quiet (Some before) was trip has ours =
        let told_then = trip_after first key state (take_state first key state) (leaves_accepted first key state seats (vehicles_of first_lawful)) accepted before trip was has ours in
        let told_now = told_on state trip.order (pending_of before) second now (follows_steps advances fits seats keeps second since second_lawful rest_typed.2) told_then in
        let instructed : IsInstructedSince key before now =
        instructed_since advances fits seats keeps first ((at, call.State key state) ∷ since) first_lawful rest_typed key before (before, was, omega arith, λ same kind is. is) in
        quiet_again advances footprints seats now (vehicles_of now_lawful) key state first before was instructed trip.order ours told_now

    again_quiet : HasNoResync key since ⊎ SpeaksOfTrip first key state → IfMade (IsQuiet now (CancelsSince first now key state)) (take_state now key state)
    again_quiet (inl none) = old_quiet (CancelsSince first now key state) none
    again_quiet (inr trip) = told_quiet (row_of first key) refl trip.0 trip.1 trip.2

    now_is : steps seats world (earlier ++ (at, call.State key state) ∷ since) ≡ now
    now_is = world_in_turn seats world earlier ((at, call.State key state) ∷ since)

  -- a repeated message is quiet
  repeated_quiet : (world : World) (calls : List (ℕ × Call)) (key : VehicleKey) (state : StateMessage) → IsLawful seats world → AreWellTyped calls → (repeated : IsRepeated seats world calls key state)
      → IfMade (IsQuiet (steps seats world calls) (CancelsSince (steps seats world repeated.earlier) (steps seats world calls) key state)) (take_state (steps seats world calls) key state)
  repeated_quiet world calls key state lawful typed repeated =
      let first = steps seats world repeated.earlier in
      subst (λ now. IfMade (IsQuiet now (CancelsSince first now key state)) (take_state now key state))
      (sym (ap (steps seats world) repeated.among ∙ now_is world repeated.earlier repeated.since repeated.at key state lawful (subst AreWellTyped repeated.among typed) repeated.accepted))
      (again_quiet world repeated.earlier repeated.since repeated.at key state lawful (subst AreWellTyped repeated.among typed) repeated.accepted repeated.still)

  -- where the vehicle was not resynced since, it changes nothing at all
  pub repeated_old : (world : World) (calls : List (ℕ × Call)) (at : ℕ) (key : VehicleKey) (state : StateMessage) → IsLawful seats world → AreWellTyped calls → (repeated : IsRepeated seats world calls key state) → HasNoResync key repeated.since
      → after (steps seats world calls) (step seats (steps seats world calls) at (call.State key state)) ≡ steps seats world calls
  repeated_old world calls at key state lawful typed repeated none =
      subst (λ now. after now (take_state now key state) ≡ now)
      (sym (ap (steps seats world) repeated.among ∙ now_is world repeated.earlier repeated.since repeated.at key state lawful (subst AreWellTyped repeated.among typed) repeated.accepted))
      (old_unchanged world repeated.earlier repeated.since repeated.at key state lawful (subst AreWellTyped repeated.among typed) repeated.accepted none)

  -- it moves no load, whatever came between
  pub repeated_moves : (world : World) (calls : List (ℕ × Call)) (at : ℕ) (key : VehicleKey) (state : StateMessage) → IsLawful seats world → AreWellTyped calls → IsRepeated seats world calls key state
      → moves_of (step seats (steps seats world calls) at (call.State key state)) ≡ []
  repeated_moves world calls at key state lawful typed repeated = moves_quiet _ _ _ (repeated_quiet world calls key state lawful typed repeated)

  -- it changes no hold, but where it lists as finished a cancelOrder that the desk has written since
  pub repeated_holds : (world : World) (calls : List (ℕ × Call)) (at : ℕ) (key : VehicleKey) (state : StateMessage) → IsLawful seats world → AreWellTyped calls → (repeated : IsRepeated seats world calls key state)
      → ((maps_of (after (steps seats world calls) (step seats (steps seats world calls) at (call.State key state)))).holds ≡ (maps_of (steps seats world calls)).holds)
      ⊎ CancelsSince (steps seats world repeated.earlier) (steps seats world calls) key state
  repeated_holds world calls at key state lawful typed repeated =
      let now = steps seats world calls in
      let rest = typed_later repeated.earlier ((repeated.at, call.State key state) ∷ repeated.since) (subst AreWellTyped repeated.among typed) in
      let next = keeps now repeated.at (call.State key state) (stays_lawful advances fits seats keeps world calls lawful typed) rest.0 rest.1 in
      holds_quiet now _ _ (repeated_quiet world calls key state lawful typed repeated) (vehicles_of next).apart
