-- What a state message that is accepted leaves: the number of the vehicle's last state, and where it was judged against a trip, that trip as the message says.
use Rattle.std.proofs.Common.{◌≡◌, ◌+◌, ℕ, nat_eq, true, IsTrue, Option, None, Some, unwrap_or, refl, sym, ap, subst, ◌∙◌, arith}
use Rattle.std.specs.Cmp.Lexicographic.{pointwise}
use Rattle.std.specs.FinMap as finite
use Rattle.std.specs.List.{slice_get}
use Rattle.std.specs.Option.{option_map, option_and_then}
use Rattle.std.proofs.lemmas.Bool.{false≢true}
use Rattle.agv_header.specs.declared.key.VehicleKey.{VehicleKey}
use Rattle.agv_message_core.specs.Order.{act_id}
use Rattle.agv_message_core.specs.declared.state.StateMessage.{StateMessage}
use Rattle.agv_message_core.specs.declared.status.Status.{Status}
use Rattle.agv_order.specs.Statuses.{may_follow}
use Rattle.agv_order.specs.declared.act.Act.{Act}
use Rattle.agv_order.specs.declared.trip.Trip.{Trip}
use Rattle.agv_track.specs.Progressed.{progressed}
use Rattle.agv_track.specs.Reached.{reported_node}
use Rattle.agv_track.specs.Reports.{told}
use Rattle.agv_track.specs.declared.progress.Progress.{Progress}
use Rattle.agv_world_core.specs.ConsistentTrips.{HasTrip}
use Rattle.agv_world_core.specs.LawfulParts.{HasLawfulVehicles}
use Rattle.agv_world_core.specs.Questions.{row_of, trip_of}
use Rattle.agv_world_core.specs.Worlds.{Vehicle, World}
use Rattle.agv_world_core.specs.declared.row.VehicleRow.{VehicleRow}
use Rattle.agv_desk.specs.Outcomes.{Effect, Outcome, Refused, Made, RowOnly, Whole, after, answer_of, with_touched, with_effect}
use Rattle.agv_desk.specs.StateSteps.{idle_state, pending_of, with_state, trip_left, trip_state, fresh_state, take_state}
use Rattle.agv_desk.specs.declared.answer.Answer.TheVariants as answer
use Rattle.agv_desk.proofs.outcomes.EffectParts.{effect_orders, effect_vehicles, written_vehicle}
use Rattle.agv_desk.proofs.histories.AcceptedSince.{IsAsTold, IsAccepted, IsTold}
use Rattle.agv_desk.proofs.histories.JudgedStates.{IsJudged, acts_are, judged_so, not_ended, status_at}
use Rattle.agv_desk.proofs.outcomes.Known.{has_trip, none_some, same_some, vehicle_with}
use Rattle.agv_desk.proofs.outcomes.Ladders.{IfMade, made_refuse_unless, made_refuse_if_none, made_judged}
use Rattle.agv_desk.proofs.lists.SameNames.{name_itself}
use Rattle.agv_desk.proofs.histories.StatesAlong.{made_either}
use Rattle.agv_desk.proofs.histories.TripLeft.{left_is, only_trip, renewed_act, trip_few}
use Rattle.agv_desk.proofs.histories.TripsFollow.{status_itself}

-- a trip that the vehicle has is the one that is told
pub trip_told : (world : World) (key : VehicleKey) (trip : Trip) → HasTrip world key trip → trip_of world key ≡ Some trip
trip_told world key trip has = ap (option_and_then (λ (vehicle : Vehicle). vehicle.trip)) has.1 ∙ has.2

module _ (world : World) (key : VehicleKey) (state : StateMessage) where
  -- where the message is accepted, its number is that of the vehicle's last state; and where it speaks of the vehicle's trip, that trip is as it says
  pub record LeavesAccepted (effect : Effect) : Type 0 where
    pub number : effect.answer ≡ answer.Accepted true → IsAccepted key state.header_id (with_effect world effect)
    pub trip : effect.answer ≡ answer.Accepted true → (row : VehicleRow) (trip : Trip) → row_of world key ≡ Some row → HasTrip world key trip → trip.order ≡ state.order_id
        → IsTold state trip.order (pending_of row) (with_effect world effect)

  abbrev P : Effect → Type 0
  P = LeavesAccepted

  -- the row of the vehicle that was written
  row_written : (effect : Effect) (new : Vehicle) → (with_effect world effect).vehicles ≡ finite.insert world.vehicles key new → row_of (with_effect world effect) key ≡ Some new.row
  row_written effect new is =
      ap (λ vehicles. option_map (λ (vehicle : Vehicle). vehicle.row) (finite.get vehicles key)) is ∙ ap (option_map (λ (vehicle : Vehicle). vehicle.row)) (written_vehicle world.vehicles key new)

  number_accepted : (effect : Effect) (new : Vehicle) → (with_touched world effect.touched).vehicles ≡ finite.insert world.vehicles key new → new.row.last_header ≡ Some state.header_id
      → IsAccepted key state.header_id (with_effect world effect)
  number_accepted effect new written is = (new.row, state.header_id, row_written effect new (effect_vehicles world effect ∙ written), is, omega arith)

  idle_leaves : (effect : Effect) (row next : VehicleRow) → effect.touched ≡ RowOnly key row next → next.last_header ≡ Some state.header_id → ((trip : Trip) → HasTrip world key trip → trip.order ≡ state.order_id → ⊥) → P effect
  idle_leaves effect row next noted number apart = record {
    number = λ accepted. number_accepted effect (vehicle_with next (trip_of world key)) (ap (λ touched. (with_touched world touched).vehicles) noted) number;
    trip = λ accepted row trip there has same. absurd (apart trip has same);
  }

  takes_idle : (row : VehicleRow) → ((trip : Trip) → HasTrip world key trip → trip.order ≡ state.order_id → ⊥) → IfMade P (idle_state key row state)
  takes_idle row apart = made_judged P _ _ (λ over is. idle_leaves _ row (with_state row state over) refl refl apart)

  module _ (seats : ℕ) (lawful : HasLawfulVehicles seats world) where
    module _ (row : VehicleRow) (trip : Trip) (has : HasTrip world key trip) (progress : Progress) (is : IsJudged trip (pending_of row) state progress) where
      -- the acts have the statuses that the message lists
      acts_told : (k : ℕ) (act : Act) (status : Status) → slice_get (progressed trip progress).acts k ≡ Some act → told state.actions (act_id trip.order k) ≡ Some status → IsTrue (may_follow status act.status)
      acts_told k act status there told_so =
          let found = renewed_act trip.acts progress.statuses k act there in
          let among = ap (λ pairs. slice_get pairs k) (sym (acts_are trip (pending_of row) state progress (trip_few seats world lawful key trip has) is)) ∙ found.1 in
          let listed = status_at state.actions trip.order 0 trip.acts k found.0 among in
          let number : 0 + k ≡ k = omega arith in
          let now : act.status ≡ status =
          ap (λ (a : Act). a.status) (sym found.2) ∙ listed ∙ ap (λ m. unwrap_or (told state.actions (act_id trip.order m)) found.0.0.status) number ∙ ap (λ o. unwrap_or o found.0.0.status) told_so in
          subst (λ one. IsTrue (may_follow status one)) (sym now) (status_itself status)

      trip_as_told : progress.«end» ≡ None → IsAsTold state (pending_of row) (progressed trip progress)
      trip_as_told open_still = record {
        reached = let seen : progress.seen ≡ reported_node state = is.seen in omega (arith, seen);
        acts = acts_told;
        open_still = (not_ended trip (pending_of row) state (sym is.over ∙ open_still)).1;
      }

      now_told : (effect : Effect) (old : Option Vehicle) (new : Vehicle) → effect.touched ≡ Whole key old new → new.trip ≡ trip_left trip progress → IsTold state trip.order (pending_of row) (with_effect world effect)
      now_told effect old new put left = record {
        used = effect_orders world effect trip.order (lawful.used key trip has);
        trips = λ other more has_more same.
            let which = only_trip world lawful.one_trip effect key old new trip put has other more has_more same in
            let now = left_is trip progress more (sym left ∙ which.1) in
            subst (IsAsTold state (pending_of row)) now.1 (trip_as_told now.0);
      }

    trip_leaves : (effect : Effect) (old : Option Vehicle) (new : Vehicle) (row : VehicleRow) (trip : Trip) (progress : Progress) → row_of world key ≡ Some row → trip_of world key ≡ Some trip
        → IsJudged trip (pending_of row) state progress → effect.touched ≡ Whole key old new → new.row.last_header ≡ Some state.header_id → new.trip ≡ trip_left trip progress → P effect
    trip_leaves effect old new row trip progress there open_trip is put number left = record {
      number = λ accepted. number_accepted effect new (ap (λ touched. (with_touched world touched).vehicles) put) number;
      trip = λ accepted other more there_too has same.
          let rows : row ≡ other = same_some (sym there ∙ there_too) in
          let trips : trip ≡ more = same_some (sym open_trip ∙ trip_told world key more has) in
          subst (λ (one : VehicleRow). IsTold state more.order (pending_of one) (with_effect world effect)) rows
          (subst (λ (one : Trip). IsTold state one.order (pending_of row) (with_effect world effect)) trips
          (now_told row trip (has_trip world key trip open_trip) progress is effect old new put left));
    }

    takes_trip : (row : VehicleRow) (trip : Trip) → row_of world key ≡ Some row → trip_of world key ≡ Some trip → IfMade P (trip_state world key row trip state)
    takes_trip row trip there open_trip =
        made_judged P _ _ (λ progress judged. trip_leaves _ _ _ row trip progress there open_trip (judged_so trip (pending_of row) state progress judged) refl refl refl)

    takes_fresh : (row : VehicleRow) → row_of world key ≡ Some row → (trip : Option Trip) → trip_of world key ≡ trip → IfMade P (fresh_state world key row trip state)
    takes_fresh row there None same = takes_idle row (λ trip has ours. none_some (sym same ∙ trip_told world key trip has))
    takes_fresh row there (Some trip) same =
        made_either P _ _ _ (λ ours. takes_trip row trip there same)
        (λ apart. made_refuse_unless P _ _ _ (λ unconfirmed. takes_idle row (λ more has ours.
        let trips : trip ≡ more = same_some (sym same ∙ trip_told world key more has) in
        false≢true (sym apart ∙ ap (λ (one : Trip). pointwise nat_eq one.order state.order_id) trips ∙ ap (λ order. pointwise nat_eq order state.order_id) ours ∙ name_itself state.order_id))))

    pub leaves_accepted : IfMade P (take_state world key state)
    leaves_accepted =
        made_refuse_if_none P _ _ _ (λ row there. made_either P _ _ _ (λ fresh. takes_fresh row there (trip_of world key) refl)
        (λ old. record { number = λ accepted. cc; trip = λ accepted. cc }))

  -- ---- of the world after the message

  pub number_after : (outcome : Outcome) → IfMade P outcome → answer_of outcome ≡ answer.Accepted true → IsAccepted key state.header_id (after world outcome)
  unfolding after answer_of
  number_after (Refused why) leaves accepted = cc
  number_after (Made effect) leaves accepted = leaves.number accepted

  pub trip_after : (outcome : Outcome) → IfMade P outcome → answer_of outcome ≡ answer.Accepted true → (row : VehicleRow) (trip : Trip) → row_of world key ≡ Some row → HasTrip world key trip → trip.order ≡ state.order_id
      → IsTold state trip.order (pending_of row) (after world outcome)
  unfolding after answer_of
  trip_after (Refused why) leaves accepted row trip there has same = cc
  trip_after (Made effect) leaves accepted row trip there has same = leaves.trip accepted row trip there has same
