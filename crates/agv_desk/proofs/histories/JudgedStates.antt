-- What a state message that is judged against a trip says of its progress: the node that it reports, the statuses that it lists, and when the trip has ended.
use Rattle.std.proofs.Common.{◌≡◌, ◌≤◌, ℕ, ◌+◌, zero, suc, Bool, true, false, cond, List, [], ◌∷◌, length, map, zip, Option, None, Some, unwrap_or, Ok, refl, sym, ap, ◌∙◌, arith}
use Rattle.std.specs.List.{enumerate_from, slice_get}
use Rattle.agv_header.specs.declared.refusal.Refusal.{Refusal}
use Rattle.agv_message_core.specs.Order.{act_id}
use Rattle.agv_message_core.specs.declared.state.StateMessage.{StateMessage}
use Rattle.agv_message_core.specs.declared.status.Status.{Status}
use Rattle.agv_order.specs.declared.act.Act.{Act}
use Rattle.agv_order.specs.declared.trip.Trip.{Trip}
use Rattle.agv_track.proofs.Eight.{eight_are_new}
use Rattle.agv_track.specs.Judgements.{act_refusals, eight, end_after, end_by, first_of, is_through, judged, new_acts, new_statuses, progress_of, unless, way_refusals}
use Rattle.agv_track.specs.Reached.{reported_node}
use Rattle.agv_track.specs.Reports.{Reports, is_cancelled, status_after, told}
use Rattle.agv_track.specs.declared.pending.Pending.{Pending}
use Rattle.agv_track.specs.declared.progress.End.{End}
use Rattle.agv_track.specs.declared.progress.End.TheVariants.{Stopped}
use Rattle.agv_track.specs.declared.progress.Progress.{Progress}
use Rattle.agv_desk.proofs.outcomes.Known.{none_some, same_some}

pub record IsJudged (trip : Trip) (pending : Option Pending) (state : StateMessage) (progress : Progress) : Type 0 where
  pub seen : progress.seen ≡ reported_node state
  pub statuses : progress.statuses ≡ eight (new_statuses trip state)
  pub over : progress.«end» ≡ end_after trip pending state

-- what passes two tests is what was to be answered
passed : (one other : Option Refusal) (answer progress : Progress) → unless one (unless other (Ok answer)) ≡ Ok progress → progress ≡ answer
passed None None answer progress is = cc
passed None (Some why) answer progress is = cc
passed (Some why) other answer progress is = cc

progress_is : (trip : Trip) (pending : Option Pending) (state : StateMessage) (progress : Progress) → judged trip pending state ≡ Ok progress → progress ≡ progress_of trip pending state
unfolding judged
progress_is trip pending state progress is = passed (first_of (way_refusals trip state)) (first_of (act_refusals trip pending state)) (progress_of trip pending state) progress is

of_progress : (trip : Trip) (pending : Option Pending) (state : StateMessage) → IsJudged trip pending state (progress_of trip pending state)
unfolding progress_of
of_progress trip pending state = record { seen = refl; statuses = refl; over = refl }

pub judged_so : (trip : Trip) (pending : Option Pending) (state : StateMessage) (progress : Progress) → judged trip pending state ≡ Ok progress → IsJudged trip pending state progress
judged_so trip pending state progress is =
    let same = progress_is trip pending state progress is in
    let of = of_progress trip pending state in
    record {
      seen = ap (λ (p : Progress). p.seen) same ∙ of.seen;
      statuses = ap (λ (p : Progress). p.statuses) same ∙ of.statuses;
      over = ap (λ (p : Progress). p.«end») same ∙ of.over;
    }

-- the acts with their statuses after the state
pub acts_are : (trip : Trip) (pending : Option Pending) (state : StateMessage) (progress : Progress) → length trip.acts ≤ 8 → IsJudged trip pending state progress
    → zip trip.acts progress.statuses ≡ zip trip.acts (new_statuses trip state)
acts_are trip pending state progress few is = eight_are_new trip state progress.statuses few is.statuses

-- the status of an act after the state, by its number
pub status_at : (reports : Reports) (order : List ℕ) (n : ℕ) (acts : List Act) (k : ℕ) (one : Act × Status) → slice_get (zip acts (map (status_after reports order) (enumerate_from n acts))) k ≡ Some one
    → one.1 ≡ unwrap_or (told reports (act_id order (n + k))) one.0.status
status_at reports order n [] k one there = none_some there
status_at reports order n (act ∷ acts) zero one there =
    let same : (act, status_after reports order (n, act)) ≡ one = same_some there in
    let number : n ≡ n + 0 = omega arith in
    ap (λ (p : Act × Status). p.1) (sym same) ∙ (λ i. unwrap_or (told reports (act_id order (number i))) (same i).0.status)
status_at reports order n (act ∷ acts) (suc k) one there =
    let number : n + 1 + k ≡ n + suc k = omega arith in
    status_at reports order (n + 1) acts k one there ∙ ap (λ m. unwrap_or (told reports (act_id order m)) one.0.status) number

-- ---- the end

ended_by : (through cancelled : Bool) (well : End) → cond through (Some well) (cond cancelled (Some Stopped) None) ≡ None → (through ≡ false) × (cancelled ≡ false)
ended_by true cancelled well is = none_some (sym is)
ended_by false true well is = none_some (sym is)
ended_by false false well is = (refl, refl)

-- a trip that has not ended is not through, and was not cancelled
pub not_ended : (trip : Trip) (pending : Option Pending) (state : StateMessage) → end_after trip pending state ≡ None → (is_through trip state ≡ false) × (is_cancelled state.actions pending ≡ false)
not_ended trip pending state is = ended_by (is_through trip state) (is_cancelled state.actions pending) (end_by (new_acts trip state)) is

-- a trip that is neither through nor cancelled has not ended
pub still_open : (trip : Trip) (pending : Option Pending) (state : StateMessage) → is_through trip state ≡ false → is_cancelled state.actions pending ≡ false → end_after trip pending state ≡ None
still_open trip pending state under_way kept = λ i. cond (under_way i) (Some (end_by (new_acts trip state))) (cond (kept i) (Some Stopped) None)
