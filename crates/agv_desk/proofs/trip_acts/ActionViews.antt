-- What the loads see of the acts of a trip, one action after the other, as one of them changes.
use Rattle.std.proofs.Common.{◌≡◌, ◌≢◌, ◌⊎◌, ℕ, zero, suc, ◌+◌, true, List, [], ◌∷◌, map, Some, inl, inr, refl, sym, ap, arith}
use Rattle.std.specs.List.{slice_get}
use Rattle.std.proofs.lemmas.List.Sums.{sum_by-cons}
use Rattle.agv_message_core.specs.declared.order.ActKind.TheVariants.{Pick, Drop}
use Rattle.agv_order.specs.StopPlaces.{IsAt}
use Rattle.agv_order.specs.Trips.{task_of, stop_of}
use Rattle.agv_order.specs.declared.act.Act.{Act}
use Rattle.agv_order.specs.declared.stop.Stop.{Stop}
use Rattle.agv_track.specs.Reports.{with_status}
use Rattle.agv_world_core.specs.StockInvariant.{ActionView, action_view, is_to_pick, to_pick}
use Rattle.agv_desk.specs.ActSteps.{Renewed}
use Rattle.agv_desk.proofs.outcomes.Known.{none_some, same_some}
use Rattle.agv_desk.proofs.lists.Writes.{one_if}

-- ---- acts, before a state and after it

abbrev pub stop_by : Act → Stop
stop_by act = stop_of (task_of act)

abbrev pub stops_by : List Renewed → List Stop
stops_by acts = map (λ (act : Renewed). stop_by act.0) acts

abbrev pub before : Renewed → ActionView
before act = action_view act.0

abbrev pub after : Renewed → ActionView
after act = action_view (with_status act)

abbrev pub all_before : List Renewed → List ActionView
all_before acts = map before acts

abbrev pub all_after : List Renewed → List ActionView
all_after acts = map after acts

-- an action is that of a stop
pub stop_before : (acts : List Renewed) (k : ℕ) (one : ActionView) → slice_get (all_before acts) k ≡ Some one → IsAt (stops_by acts) one.job one.kind k
stop_before [] k one at = none_some at
stop_before (act ∷ acts) zero one at = let same = same_some at in λ i. Some (record { kind = (same i).kind; job = (same i).job })
stop_before (act ∷ acts) (suc k) one at = stop_before acts k one at

pub stop_after : (acts : List Renewed) (k : ℕ) (one : ActionView) → slice_get (all_after acts) k ≡ Some one → IsAt (stops_by acts) one.job one.kind k
stop_after [] k one at = none_some at
stop_after (act ∷ acts) zero one at = let same = same_some at in λ i. Some (record { kind = (same i).kind; job = (same i).job })
stop_after (act ∷ acts) (suc k) one at = stop_after acts k one at

pub due-cons : (one : ActionView) (carries : List ActionView) → to_pick (one ∷ carries) ≡ one_if (is_to_pick one) + to_pick carries
due-cons one carries = sum_by-cons (λ (e : ActionView). one_if (is_to_pick e)) one carries

-- ---- one action becomes another

-- at one place of the list there is another action, and all others are as before
pub record Swap (old new : ActionView) (olds news : List ActionView) : Type 0 where
  pub index : ℕ
  pub was : slice_get olds index ≡ Some old
  pub now : slice_get news index ≡ Some new
  pub ahead : (k : ℕ) (one : ActionView) → slice_get news k ≡ Some one → ((k ≡ index) × (one ≡ new)) ⊎ ((k ≢ index) × (slice_get olds k ≡ Some one))
  pub back : (k : ℕ) (one : ActionView) → slice_get olds k ≡ Some one → ((k ≡ index) × (one ≡ old)) ⊎ ((k ≢ index) × (slice_get news k ≡ Some one))
  pub count : to_pick news + one_if (is_to_pick old) ≡ to_pick olds + one_if (is_to_pick new)

pub swap_here : (old new : ActionView) (rest : List ActionView) → Swap old new (old ∷ rest) (new ∷ rest)
swap_here old new rest = record {
  index = 0;
  was = refl;
  now = refl;
  ahead = λ k one at. first new old k one at;
  back = λ k one at. first old new k one at;
  count = omega (arith, due-cons old rest, due-cons new rest);
}
  where
    first : (new old : ActionView) (k : ℕ) (one : ActionView) → slice_get (new ∷ rest) k ≡ Some one → ((k ≡ 0) × (one ≡ new)) ⊎ ((k ≢ 0) × (slice_get (old ∷ rest) k ≡ Some one))
    first new old zero one at = inl (refl, sym (same_some at))
    first new old (suc k) one at = inr (λ e. absurd (omega (arith, e)), at)

swap_cons : (front old new : ActionView) (olds news : List ActionView) → Swap old new olds news → Swap old new (front ∷ olds) (front ∷ news)
swap_cons front old new olds news swap = record {
  index = suc swap.index;
  was = swap.was;
  now = swap.now;
  ahead = λ k one at. later olds news new swap.ahead k one at;
  back = λ k one at. later news olds old swap.back k one at;
  count = omega (arith, due-cons front olds, due-cons front news, swap.count);
}
  where
    later : (olds news : List ActionView) (new : ActionView) → ((k : ℕ) (one : ActionView) → slice_get news k ≡ Some one → ((k ≡ swap.index) × (one ≡ new)) ⊎ ((k ≢ swap.index) × (slice_get olds k ≡ Some one)))
        → (k : ℕ) (one : ActionView) → slice_get (front ∷ news) k ≡ Some one → ((k ≡ suc swap.index) × (one ≡ new)) ⊎ ((k ≢ suc swap.index) × (slice_get (front ∷ olds) k ≡ Some one))
    later olds news new cases zero one at = inr (λ e. absurd (omega (arith, e)), at)
    later olds news new cases (suc k) one at = elim (cases k one at) [
      | inl same ↦ inl (ap suc same.0, same.1)
      | inr other ↦ inr (λ e. other.0 (omega (arith, e)), other.1)
    ]

-- ---- the actions that were gone through, the last one first, and those to come

abbrev pub whole : List ActionView → List ActionView → List ActionView
whole [] rest = rest
whole (one ∷ gone) rest = whole gone (one ∷ rest)

pub swap_whole : (gone : List ActionView) (old new : ActionView) (olds news : List ActionView) → Swap old new olds news → Swap old new (whole gone olds) (whole gone news)
swap_whole [] old new olds news swap = swap
swap_whole (one ∷ gone) old new olds news swap = swap_whole gone old new (one ∷ olds) (one ∷ news) (swap_cons one old new olds news swap)

pub in_rest : (gone rest : List ActionView) (k : ℕ) (one : ActionView) → slice_get rest k ≡ Some one → (i : ℕ) × (slice_get (whole gone rest) i ≡ Some one)
in_rest [] rest k one at = (k, at)
in_rest (first ∷ gone) rest k one at = in_rest gone (first ∷ rest) (suc k) one at

-- what stands in the whole was gone through, and stands there whatever comes then, or is to come
pub in_whole : (gone rest more : List ActionView) (i : ℕ) (one : ActionView) → slice_get (whole gone rest) i ≡ Some one
    → ((k : ℕ) × (slice_get (whole gone more) k ≡ Some one)) ⊎ ((k : ℕ) × (slice_get rest k ≡ Some one))
in_whole [] rest more i one at = inr (i, at)
in_whole (first ∷ gone) rest more i one at = elim (in_whole gone (first ∷ rest) (first ∷ more) i one at) [
  | inl was ↦ inl was
  | inr is ↦ split is.0 is.1
]
  where
    split : (k : ℕ) → slice_get (first ∷ rest) k ≡ Some one → ((k : ℕ) × (slice_get (whole gone (first ∷ more)) k ≡ Some one)) ⊎ ((k : ℕ) × (slice_get rest k ≡ Some one))
    split zero at = inl (in_rest gone (first ∷ more) 0 one at)
    split (suc k) at = inr (k, at)

-- ---- picks that are finished

-- the pick of the job is among the actions, finished
pub record IsPicked (carries : List ActionView) (job : List ℕ) : Type 0 where
  pub k : ℕ
  pub one : ActionView
  pub here : slice_get carries k ≡ Some one
  pub kind : one.kind ≡ Pick
  pub of_job : one.job ≡ job
  pub finished : one.finished ≡ true

-- each finished drop has a finished pick of its job
abbrev pub AfterPicks : List ActionView → Type 0
AfterPicks carries = (k : ℕ) (one : ActionView) → slice_get carries k ≡ Some one → one.kind ≡ Drop → one.finished ≡ true → IsPicked carries one.job
