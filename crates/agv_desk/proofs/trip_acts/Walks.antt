-- The acts of a trip, one after the other, as a state renews them: the loads move, the jobs are done or stop, and the stock invariant holds as before.
use Rattle.std.proofs.Common.{◌≡◌, ℕ, zero, suc, true, false, List, [], ◌∷◌, Some, inl, inr, refl, sym, ap, subst, ◌∙◌}
use Rattle.std.specs.List.{cons_option, slice_get}
use Rattle.agv_header.specs.declared.key.VehicleKey.{VehicleKey}
use Rattle.agv_layout.specs.Layout.{Layout}
use Rattle.agv_message_core.specs.declared.order.ActKind.{ActKind}
use Rattle.agv_message_core.specs.declared.order.ActKind.TheVariants.{Pick, Drop}
use Rattle.agv_order.specs.Statuses.{is_finished}
use Rattle.agv_order.specs.StopPlaces.{IsAt}
use Rattle.agv_world_core.specs.StockInvariant.{ActionView, Jobs, Places}
use Rattle.agv_world_core.specs.TableChanges.{written}
use Rattle.agv_world_core.specs.Worlds.{World}
use Rattle.agv_desk.specs.ActSteps.{Renewed, act_job, act_jobs, act_move, act_moves}
use Rattle.agv_desk.specs.Outcomes.{moved}
use Rattle.agv_desk.proofs.trip_acts.ActionViews.{AfterPicks, IsPicked, after, all_after, all_before, in_rest, in_whole, stop_after, stop_before, stop_by, stops_by, whole}
use Rattle.agv_desk.proofs.trip_acts.FitStops.{Fit, no_pick_after}
use Rattle.agv_desk.proofs.outcomes.Known.{same_some}
use Rattle.agv_desk.proofs.trip_acts.WalkHeads.{Untouched, head, moved-first, off_head, untouched_next, written-first}
use Rattle.agv_desk.proofs.trip_acts.WalkSteps.{Now, pick_drop}

-- what is finished stays so
abbrev pub Renews : List Renewed → Type 0
Renews [] = Unit {0}
Renews (act ∷ acts) = (is_finished act.0.status ≡ true → is_finished act.1 ≡ true) × Renews acts

-- the pick of a drop that is finished now came before it
pub pick_before : (gone : List ActionView) (act : Renewed) (acts : List Renewed) → Fit (stops_by (act ∷ acts)) → AfterPicks (whole gone (all_after (act ∷ acts))) → act.0.kind ≡ Drop → is_finished act.1 ≡ true
    → IsPicked (whole gone (all_before (act ∷ acts))) act.0.job
pick_before gone act acts fit turns is finishes =
    let index = in_rest gone (after act ∷ all_after acts) 0 (after act) refl in
    let picked : IsPicked (whole gone (after act ∷ all_after acts)) act.0.job = turns index.0 (after act) index.1 is finishes in
    elim (in_whole gone (after act ∷ all_after acts) (all_before (act ∷ acts)) picked.k picked.one picked.here) [
      | inl was ↦ record { k = was.0; one = picked.one; here = was.1; kind = picked.kind; of_job = picked.of_job; finished = picked.finished }
      | inr later ↦ absurd (not_later later.0 picked.one later.1 picked.kind picked.of_job)
    ]
  where
    not_later : (i : ℕ) (one : ActionView) → slice_get (after act ∷ all_after acts) i ≡ Some one → one.kind ≡ Pick → one.job ≡ act.0.job → ⊥
    not_later zero one at kind same = pick_drop one.kind kind (ap (λ (x : ActionView). x.kind) (sym (same_some at)) ∙ is)
    not_later (suc i) one at kind same =
        no_pick_after (stop_by act.0) (stops_by acts) fit is i
        (subst (λ name. IsAt (stops_by acts) name Pick i) same (subst (λ k. IsAt (stops_by acts) one.job k i) kind (stop_after acts i one at)))

-- after its drop there is no action of the job
pub none_after : (act : Renewed) (acts : List Renewed) → Fit (stops_by (act ∷ acts)) → act.0.kind ≡ Drop → (k : ℕ) (one : ActionView) → slice_get (all_before acts) k ≡ Some one → one.job ≡ act.0.job → ⊥
none_after act acts fit is k one at same = by_kind one.kind refl
  where
    at_stop : IsAt (stops_by acts) act.0.job one.kind k
    at_stop = subst (λ name. IsAt (stops_by acts) name one.kind k) same (stop_before acts k one at)

    by_kind : (kind : ActKind) → one.kind ≡ kind → ⊥
    by_kind Pick e = no_pick_after (stop_by act.0) (stops_by acts) fit is k (subst (λ kind. IsAt (stops_by acts) act.0.job kind k) e at_stop)
    by_kind Drop e = fit.0 k (subst (λ kind. IsAt (stops_by acts) act.0.job kind k) (e ∙ sym is) at_stop)

module _ (layout : Layout) (carries : VehicleKey → List ActionView) (capacity : VehicleKey → ℕ) (key : VehicleKey) (world : World) (order : List ℕ) where
  abbrev With : List ActionView → Places → Jobs → Type 0
  With carried places jobs = Now layout carries capacity key carried places jobs

  -- the first act of a trip that goes on
  pub walk_first : (gone : List ActionView) (act : Renewed) (acts : List Renewed) (places : Places) (jobs : Jobs) → Renews (act ∷ acts) → Fit (stops_by (act ∷ acts)) → AfterPicks (whole gone (all_after (act ∷ acts)))
      → Untouched world (act ∷ acts) jobs → With (whole gone (all_before (act ∷ acts))) places jobs
      → With (whole gone (after act ∷ all_before acts)) (moved places (cons_option (act_move key order act) [])) (written jobs (cons_option (act_job world false act) []))
  walk_first gone act acts places jobs renews fit turns untouched now =
      head layout carries capacity key world order gone (all_before acts) act.0.kind act.0.job act.0.load act.0.station (is_finished act.0.status) (is_finished act.1) places jobs
      renews.0 (λ is was finishes. pick_before gone act acts fit turns is finishes)
      (λ is. untouched 0 act.0.job (λ i. Some (record { kind = is i; job = act.0.job }))) now

  -- the trip goes on
  pub walk : (gone : List ActionView) (acts : List Renewed) (places : Places) (jobs : Jobs) → Renews acts → Fit (stops_by acts) → AfterPicks (whole gone (all_after acts))
      → Untouched world acts jobs → With (whole gone (all_before acts)) places jobs
      → With (whole gone (all_after acts)) (moved places (act_moves key order acts)) (written jobs (act_jobs world false acts))
  walk gone [] places jobs renews fit turns untouched now = now
  walk gone (act ∷ acts) places jobs renews fit turns untouched now =
      let first = walk_first gone act acts places jobs renews fit turns untouched now in
      let rest = walk (after act ∷ gone) acts _ _ renews.1 fit.2 turns (untouched_next world false act acts jobs fit untouched) first in
      subst (λ p. With (whole gone (all_after (act ∷ acts))) p (written jobs (act_jobs world false (act ∷ acts))))
      (sym (moved-first places (act_move key order act) (act_moves key order acts)))
      (subst (λ j. With (whole gone (all_after (act ∷ acts))) (moved (moved places (cons_option (act_move key order act) [])) (act_moves key order acts)) j)
      (sym (written-first jobs (act_job world false act) (act_jobs world false acts))) rest)

  -- the trip has ended
  pub walk_off : (acts : List Renewed) (places : Places) (jobs : Jobs) → Renews acts → Fit (stops_by acts) → Untouched world acts jobs → With (all_before acts) places jobs
      → With [] (moved places (act_moves key order acts)) (written jobs (act_jobs world true acts))
  walk_off [] places jobs renews fit untouched now = now
  walk_off (act ∷ acts) places jobs renews fit untouched now =
      let first = off_head layout carries capacity key world order (all_before acts) act.0.kind act.0.job act.0.load act.0.station (is_finished act.0.status) (is_finished act.1) places jobs
      renews.0 (λ is. none_after act acts fit is) (λ is. untouched 0 act.0.job (λ i. Some (record { kind = is i; job = act.0.job }))) now in
      let rest = walk_off acts _ _ renews.1 fit.2 (untouched_next world true act acts jobs fit untouched) first in
      subst (λ p. With [] p (written jobs (act_jobs world true (act ∷ acts))))
      (sym (moved-first places (act_move key order act) (act_moves key order acts)))
      (subst (λ j. With [] (moved (moved places (cons_option (act_move key order act) [])) (act_moves key order acts)) j)
      (sym (written-first jobs (act_job world true act) (act_jobs world true acts))) rest)
