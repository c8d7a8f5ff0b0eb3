-- The three ways in which a state is judged.
use Rattle.std.proofs.Common.{◌≡◌, ℕ, Bool, List, Option, Some, None, Ok, Err, sym, ap, ◌∙◌}
use Rattle.agv_header.specs.declared.refusal.Refusal.{Refusal}
use Rattle.agv_message_core.specs.declared.state.StateMessage.{StateMessage}
use Rattle.agv_order.specs.declared.trip.Trip.{Trip}
use Rattle.agv_track.specs.Judgements.{way_refusals, act_refusals, first_of, unless, eight, new_statuses, end_after, rest_after, progress_of, judged}
use Rattle.agv_track.specs.declared.pending.Pending.{Pending}
use Rattle.agv_message_core.specs.declared.status.Status.{Status}
use Rattle.agv_track.specs.Reached.{reported_node}
use Rattle.agv_track.specs.Reports.{is_pending_over}
use Rattle.agv_track.specs.declared.progress.End.{End}
use Rattle.agv_track.specs.declared.progress.Progress.{Progress}

pub refused_way : (trip : Trip) (pending : Option Pending) (state : StateMessage) (why : Refusal) → first_of (way_refusals trip state) ≡ Some why → Err why ≡ judged trip pending state
unfolding judged
refused_way trip pending state why way =
    sym (ap (λ o. unless o (unless (first_of (act_refusals trip pending state)) (Ok (progress_of trip pending state)))) way)

pub refused_acts : (trip : Trip) (pending : Option Pending) (state : StateMessage) (why : Refusal) → first_of (way_refusals trip state) ≡ None → first_of (act_refusals trip pending state) ≡ Some why → Err why ≡ judged trip pending state
unfolding judged
refused_acts trip pending state why way acts =
    sym (ap (λ o. unless o (unless (first_of (act_refusals trip pending state)) (Ok (progress_of trip pending state)))) way ∙ ap (λ o. unless o (Ok (progress_of trip pending state))) acts)

pub accepted : (trip : Trip) (pending : Option Pending) (state : StateMessage) (progress : Progress) → first_of (way_refusals trip state) ≡ None → first_of (act_refusals trip pending state) ≡ None → progress ≡ progress_of trip pending state → Ok progress ≡ judged trip pending state
unfolding judged
accepted trip pending state progress way acts is =
    ap Ok is ∙ sym (ap (λ o. unless o (unless (first_of (act_refusals trip pending state)) (Ok (progress_of trip pending state)))) way ∙ ap (λ o. unless o (Ok (progress_of trip pending state))) acts)

-- a progress whose parts are those of the definition
pub same_progress : (trip : Trip) (pending : Option Pending) (state : StateMessage) (seen : ℕ) (statuses : List Status) (over : Bool) (ending : Option End) (rest : Option (List ℕ × List ℕ))
    → seen ≡ reported_node state → statuses ≡ eight (new_statuses trip state) → over ≡ is_pending_over state.actions pending → ending ≡ end_after trip pending state → rest ≡ rest_after trip pending state
    → record { seen = seen; confirmed = state.update; statuses = statuses; pending_over = over; «end» = ending; rest = rest } ≡ progress_of trip pending state
unfolding progress_of
same_progress trip pending state seen statuses over ending rest e1 e2 e3 e4 e5 i =
    record { seen = e1 i; confirmed = state.update; statuses = e2 i; pending_over = e3 i; «end» = e4 i; rest = e5 i }
