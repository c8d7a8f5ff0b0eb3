-- What a state message leaves of the history of a world: its trip goes on, and each act is carried out once.
use Rattle.std.proofs.Common.{◌≡◌, ◌<◌, ◌&&◌, inl, inr, ℕ, Bool, true, false, cond, not, List, zip, Option, None, Some, refl, sym, ap, subst, ◌∙◌, arith, ltb-true}
use Rattle.std.specs.FinSet as set
use Rattle.std.specs.List.{slice_get}
use Rattle.std.proofs.lemmas.Bool.{false≢true}
use Rattle.agv_header.specs.Count.{is_fresh}
use Rattle.agv_header.specs.declared.key.VehicleKey.{VehicleKey}
use Rattle.agv_message_core.specs.declared.order.ActKind.{ActKind}
use Rattle.agv_message_core.specs.declared.state.StateMessage.{StateMessage}
use Rattle.agv_message_core.specs.declared.instant.InstantKind.{InstantKind}
use Rattle.agv_order.specs.Statuses.{is_finished}
use Rattle.agv_order.specs.declared.act.Act.{Act}
use Rattle.agv_order.specs.declared.trip.Trip.{Trip}
use Rattle.agv_track.specs.declared.progress.Progress.{Progress}
use Rattle.agv_world_core.specs.ConsistentTrips.{HasTrip}
use Rattle.agv_world_core.specs.LawfulParts.{HasLawfulVehicles}
use Rattle.agv_world_core.specs.Questions.{row_of, trip_of}
use Rattle.agv_world_core.specs.Worlds.{Vehicle, World}
use Rattle.agv_world_core.specs.declared.row.VehicleRow.{VehicleRow}
use Rattle.agv_desk.specs.Histories.{times}
use Rattle.agv_desk.specs.ActSteps.{Renewed, act_moves}
use Rattle.agv_desk.specs.Outcomes.{Effect, Whole, Outcome, branch, with_effect}
use Rattle.agv_desk.specs.StateSteps.{pending_of, with_state, idle_state, row_after, trip_left, trip_state, fresh_state, take_state}
use Rattle.agv_desk.proofs.histories.ActsCounted.{HasOnce, IsCarriedOut, none_or_one}
use Rattle.agv_desk.proofs.outcomes.EffectParts.{effect_orders}
use Rattle.agv_desk.proofs.row_changes.Given.{AdvancesTrips}
use Rattle.agv_desk.proofs.histories.GoingAlong.{ActsOnce, GoesAlong, IsSpent, RowGoesOn}
use Rattle.agv_desk.proofs.outcomes.Keeping.{Continues}
use Rattle.agv_desk.proofs.outcomes.Known.{has_trip, none_some, same_some}
use Rattle.agv_desk.proofs.outcomes.Ladders.{IfMade, made_refuse_unless, made_refuse_if_none, made_judged}
use Rattle.agv_desk.proofs.histories.PlainAlong.{notes_row, puts_known, touches_none}
use Rattle.agv_desk.proofs.histories.TripLeft.{PairsAsSaid, left_is, one_act_each, only_trip, progress_continues, renewed_act, trip_few, trip_lawful, trip_under_way, zipped_act}

-- one way or the other, with what the test has shown
pub made_either : (P : Effect → Type 0) (test : Bool) (one other : Outcome) → (test ≡ true → IfMade P one) → (test ≡ false → IfMade P other) → IfMade P (branch test one other)
unfolding branch
made_either P true one other h k = h refl
made_either P false one other h k = k refl

-- ---- the row after a state

-- a state that is fresh has a greater number
pub fresh_greater : (there : Option ℕ) (number last : ℕ) → is_fresh there number ≡ true → there ≡ Some last → last < number
fresh_greater there number last fresh is = ltb-true last number (ap (λ o. is_fresh o number) (sym is) ∙ fresh)

still_pending : (over : Bool) (there : Option InstantKind) (kind : InstantKind) → cond over None there ≡ Some kind → there ≡ Some kind
still_pending true there kind is = none_some is
still_pending false there kind is = is

accepted_goes_on : (forgotten : Type 0) (row : VehicleRow) (state : StateMessage) (over : Bool) → is_fresh row.last_header state.header_id ≡ true → RowGoesOn forgotten row (with_state row state over)
accepted_goes_on forgotten row state over fresh = record {
  count = omega arith;
  pending = λ same kind is. still_pending over row.pending kind is;
  header = λ last is. let less : last < state.header_id = fresh_greater row.last_header state.header_id last fresh is in inl (state.header_id, refl, omega (arith, less));
}

row_goes_on : (forgotten : Type 0) (row : VehicleRow) (trip : Trip) (state : StateMessage) (progress : Progress) → is_fresh row.last_header state.header_id ≡ true → RowGoesOn forgotten row (row_after row trip state progress)
row_goes_on forgotten row trip state progress fresh =
    let goes = accepted_goes_on forgotten row state progress.pending_over fresh in
    record { count = goes.count; pending = goes.pending; header = goes.header }

-- an act that becomes finished was not finished, and is
was_unfinished : (finished before : Bool) → (finished && not before) ≡ true → (finished ≡ true) × (before ≡ false)
was_unfinished true true e = cc
was_unfinished true false e = (refl, refl)
was_unfinished false before e = cc

module _ (advances : AdvancesTrips) (fits : PairsAsSaid) (seats : ℕ) (world : World) (lawful : HasLawfulVehicles seats world) (forgets : VehicleKey → Type 0) where
  abbrev P : Effect → Type 0
  P = GoesAlong world forgets

  takes_idle : (key : VehicleKey) (row : VehicleRow) (state : StateMessage) → row_of world key ≡ Some row → is_fresh row.last_header state.header_id ≡ true → IfMade P (idle_state key row state)
  takes_idle key row state there fresh =
      made_judged P _ _ (λ over is. notes_row world forgets _ key row _ refl (λ kind order job. refl) there (accepted_goes_on (forgets key) row state over fresh))

  -- the acts of a trip after a state, where they are carried out
  module _ (effect : Effect) (key : VehicleKey) (old : Option Vehicle) (new : Vehicle) (trip : Trip) (progress : Progress) (has : HasTrip world key trip)
      (put : effect.touched ≡ Whole key old new) (left : new.trip ≡ trip_left trip progress) where
    each_once : (kind : ActKind) (order job : List ℕ) → HasOnce kind order job (zip trip.acts progress.statuses)
    each_once kind order job i k one other at_i at_k kind_one kind_other job_one job_other =
        one_act_each fits trip.acts (trip_lawful seats world lawful key trip has).well_formed.planned.stops i k one.0 other.0
        (zipped_act trip.acts progress.statuses i one at_i) (zipped_act trip.acts progress.statuses k other at_k) (kind_one ∙ sym kind_other) (job_one ∙ sym job_other)

    -- what is carried out was not spent
    not_spent : (kind : ActKind) (order job : List ℕ) (k : ℕ) (act : Renewed) → slice_get (zip trip.acts progress.statuses) k ≡ Some act → IsCarriedOut kind order job trip.order act → IsSpent kind order job world → ⊥
    not_spent kind order job k act there done spent =
        let unfinished = was_unfinished (is_finished act.1) (is_finished act.0.status) done.finished in
        false≢true (sym unfinished.1 ∙ spent.over key trip has done.same_order k act.0 (zipped_act trip.acts progress.statuses k act there) done.kind_is done.job_is)

    -- and is spent now
    spent_now : (kind : ActKind) (order job : List ℕ) (k : ℕ) (act : Renewed) → slice_get (zip trip.acts progress.statuses) k ≡ Some act → IsCarriedOut kind order job trip.order act → IsSpent kind order job (with_effect world effect)
    spent_now kind order job k act there done = record {
      used = effect_orders world effect order (ap (set.contains world.orders) (sym done.same_order) ∙ lawful.used key trip has);
      over = λ other more has_more same i one at kind_is job_is.
          let which = only_trip world lawful.one_trip effect key old new trip put has other more has_more (same ∙ sym done.same_order) in
          let now = left_is trip progress more (sym left ∙ which.1) in
          let found = renewed_act trip.acts progress.statuses i one (ap (λ (t : Trip). slice_get t.acts i) now.1 ∙ at) in
          let same_kind = ap (λ (a : Act). a.kind) found.2 ∙ kind_is in
          let same_job = ap (λ (a : Act). a.job) found.2 ∙ job_is in
          let index : i ≡ k = each_once kind order job i k found.0 act found.1 there same_kind done.kind_is same_job done.job_is in
          let acts : found.0 ≡ act = same_some (sym found.1 ∙ ap (slice_get (zip trip.acts progress.statuses)) index ∙ there) in
          ap (λ (a : Act). is_finished a.status) (sym found.2) ∙ ap (λ (a : Renewed). is_finished a.1) acts ∙ (was_unfinished (is_finished act.1) (is_finished act.0.status) done.finished).0;
    }

    acts_once : effect.moves ≡ act_moves key trip.order (zip trip.acts progress.statuses) → ActsOnce world effect
    acts_once moves = record {
      once = λ kind order job.
          let counted = ap (times kind order job) moves in
          elim (none_or_one kind order job key trip.order (zip trip.acts progress.statuses) (each_once kind order job)) [
            | inl none ↦ inl (counted ∙ none)
            | inr one ↦ inr (counted ∙ one.0, not_spent kind order job one.1.0 one.1.1 one.1.2 one.1.3, spent_now kind order job one.1.0 one.1.1 one.1.2 one.1.3)
          ];
    }

  goes_on_trip : (key : VehicleKey) (row : VehicleRow) (trip : Trip) (state : StateMessage) → row_of world key ≡ Some row → trip_of world key ≡ Some trip → is_fresh row.last_header state.header_id ≡ true
      → IfMade P (trip_state world key row trip state)
  goes_on_trip key row trip state there same fresh =
      let has = has_trip world key trip same in
      made_judged P _ _ (λ progress judged.
      let step = advances trip (pending_of row) state progress (trip_under_way seats world lawful key trip has) (trip_few seats world lawful key trip has) judged in
      puts_known world forgets _ key _ _ row refl (acts_once _ key _ _ trip progress has refl refl refl) there (row_goes_on (forgets key) row trip state progress fresh)
      (λ left is. inl (trip, has, subst (Continues trip) (left_is trip progress left is).1 (progress_continues trip progress step))))

  takes_fresh : (key : VehicleKey) (row : VehicleRow) (state : StateMessage) → row_of world key ≡ Some row → is_fresh row.last_header state.header_id ≡ true
      → (trip : Option Trip) → trip_of world key ≡ trip → IfMade P (fresh_state world key row trip state)
  takes_fresh key row state there fresh None same = takes_idle key row state there fresh
  takes_fresh key row state there fresh (Some trip) same =
      made_either P _ _ _ (λ ours. goes_on_trip key row trip state there same fresh) (λ other. made_refuse_unless P _ _ _ (λ unconfirmed. takes_idle key row state there fresh))

  pub takes_state : (key : VehicleKey) (state : StateMessage) → IfMade P (take_state world key state)
  takes_state key state =
      made_refuse_if_none P _ _ _ (λ row there. made_either P _ _ _ (λ fresh. takes_fresh key row state there fresh (trip_of world key) refl)
      (λ old. touches_none world forgets _ refl (λ kind order job. refl)))
