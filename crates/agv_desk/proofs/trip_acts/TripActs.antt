-- The acts of a trip with the statuses that a state gives them: their stops, their actions before and after, and that each goes forward in its turn.
use Rattle.std.proofs.Common.{◌≡◌, ◌&&◌, ◌||◌, ℕ, zero, suc, Bool, true, false, not, nat_eq, List, [], ◌∷◌, map, Some, true≢false, refl, sym, ap, subst, ◌∙◌}
use Rattle.std.proofs.lemmas.Bool.{and_parts}
use Rattle.std.specs.Cmp.Lexicographic.{pointwise}
use Rattle.std.specs.List.{list_all, slice_get, zip}
use Rattle.agv_header.specs.declared.key.VehicleKey.{VehicleKey}
use Rattle.agv_message_core.specs.declared.order.ActKind.{ActKind}
use Rattle.agv_message_core.specs.declared.order.ActKind.TheVariants.{Pick, Drop}
use Rattle.agv_message_core.specs.declared.status.Status.{Status}
use Rattle.agv_message_core.specs.declared.status.Status.TheVariants.{Waiting, Initializing, Running, Paused, Finished, Failed}
use Rattle.agv_order.specs.Statuses.{is_finished, may_follow}
use Rattle.agv_order.specs.Stops.{is_drop}
use Rattle.agv_order.specs.Trips.{stop_of, task_of}
use Rattle.agv_order.specs.WellFormed.{is_in_turn, is_picked}
use Rattle.agv_order.specs.declared.act.Act.{Act}
use Rattle.agv_track.specs.Progressed.{ActGoesOn}
use Rattle.agv_track.specs.Reports.{renewed, with_status}
use Rattle.agv_world_core.specs.StockInvariant.{ActionView, action_view, action_views}
use Rattle.agv_desk.specs.ActSteps.{Renewed, act_moves, as_it_is}
use Rattle.agv_desk.proofs.trip_acts.ActionViews.{AfterPicks, IsPicked, all_after, all_before, stops_by}
use Rattle.agv_desk.proofs.outcomes.Known.{none_some, same_some}
use Rattle.agv_desk.proofs.lists.SameNames.{same_name}
use Rattle.agv_desk.proofs.trip_acts.Walks.{Renews}

-- ---- acts as they are

pub same_before : (acts : List Act) → all_before (map as_it_is acts) ≡ action_views acts
same_before [] = refl
same_before (act ∷ acts) = ap (λ rest. action_view act ∷ rest) (same_before acts)

pub same_stops : (acts : List Act) → stops_by (map as_it_is acts) ≡ map stop_of (map task_of acts)
same_stops [] = refl
same_stops (act ∷ acts) = ap (λ rest. stop_of (task_of act) ∷ rest) (same_stops acts)

pub same_renews : (acts : List Act) → Renews (map as_it_is acts)
same_renews [] = tt
same_renews (act ∷ acts) = (λ is. is, same_renews acts)

-- no load moves
pub no_moves : (key : VehicleKey) (order : List ℕ) (acts : List Act) → act_moves key order (map as_it_is acts) ≡ []
no_moves key order [] = refl
no_moves key order (act ∷ acts) = still act.status ∙ no_moves key order acts
  where
    still : (now : Status) → act_moves key order (map as_it_is (record act { status = now } ∷ acts)) ≡ act_moves key order (map as_it_is acts)
    still Waiting = refl
    still Initializing = refl
    still Running = refl
    still Paused = refl
    still Finished = refl
    still Failed = refl

-- ---- acts with new statuses

-- what is finished stays so
finished_stays : (old new : Status) → may_follow old new ≡ true → is_finished old ≡ true → is_finished new ≡ true
finished_stays Waiting new f e = absurd (true≢false (sym e))
finished_stays Initializing new f e = absurd (true≢false (sym e))
finished_stays Running new f e = absurd (true≢false (sym e))
finished_stays Paused new f e = absurd (true≢false (sym e))
finished_stays Finished Waiting f e = f
finished_stays Finished Initializing f e = f
finished_stays Finished Running f e = f
finished_stays Finished Paused f e = f
finished_stays Finished Finished f e = refl
finished_stays Finished Failed f e = f
finished_stays Failed new f e = absurd (true≢false (sym e))

-- each act goes on
abbrev pub AllGoOn : List Act → List Status → Type 0
AllGoOn acts statuses = (k : ℕ) (before : Act) → slice_get acts k ≡ Some before → (after : Act) × (slice_get (renewed acts statuses) k ≡ Some after) × ActGoesOn before after

-- there is no act without a status
left_out : {A : Type 0} (act : Act) (acts : List Act) → AllGoOn (act ∷ acts) [] → A
left_out act acts goes = none_some (goes 0 act refl).1

pub zip_before : (acts : List Act) (statuses : List Status) → AllGoOn acts statuses → all_before (zip acts statuses) ≡ action_views acts
zip_before [] statuses goes = refl
zip_before (act ∷ acts) [] goes = left_out act acts goes
zip_before (act ∷ acts) (status ∷ statuses) goes = ap (λ rest. action_view act ∷ rest) (zip_before acts statuses (λ k. goes (suc k)))

pub zip_stops : (acts : List Act) (statuses : List Status) → AllGoOn acts statuses → stops_by (zip acts statuses) ≡ map stop_of (map task_of acts)
zip_stops [] statuses goes = refl
zip_stops (act ∷ acts) [] goes = left_out act acts goes
zip_stops (act ∷ acts) (status ∷ statuses) goes = ap (λ rest. stop_of (task_of act) ∷ rest) (zip_stops acts statuses (λ k. goes (suc k)))

pub zip_renews : (acts : List Act) (statuses : List Status) → AllGoOn acts statuses → Renews (zip acts statuses)
zip_renews [] statuses goes = tt
zip_renews (act ∷ acts) [] goes = tt
zip_renews (act ∷ acts) (status ∷ statuses) goes =
    let first = goes 0 act refl in
    (finished_stays act.status status (subst (λ (a : Act). may_follow act.status a.status ≡ true) (sym (same_some first.1)) first.2.follows), zip_renews acts statuses (λ k. goes (suc k)))

pub all_after_is : (acts : List Renewed) → all_after acts ≡ action_views (map with_status acts)
all_after_is [] = refl
all_after_is (act ∷ acts) = ap (λ rest. action_view (with_status act) ∷ rest) (all_after_is acts)

-- ---- acts in their turn

or_then : (a b : Bool) → (not a || b) ≡ true → a ≡ true → b ≡ true
or_then true b e f = e
or_then false b e f = absurd (true≢false (sym f))

no_drop : (kind : ActKind) → not (is_drop kind) ≡ true → kind ≡ Pick
no_drop Pick e = refl
no_drop Drop e = absurd (true≢false (sym e))

-- a finished pick among the acts
picked_of : (acts : List Act) (job : List ℕ) → is_picked acts job ≡ true → IsPicked (action_views acts) job
picked_of [] job e = absurd (true≢false (sym e))
picked_of (act ∷ acts) job e = by_test (not (is_drop act.kind) && is_finished act.status && pointwise nat_eq act.job job) refl (picked_of acts job) e
  where
    by_test : (here : Bool) → (not (is_drop act.kind) && is_finished act.status && pointwise nat_eq act.job job) ≡ here → (is_picked acts job ≡ true → IsPicked (action_views acts) job)
        → (here || is_picked acts job) ≡ true → IsPicked (action_views (act ∷ acts)) job
    by_test true is later e =
        let more : (not (is_drop act.kind) && is_finished act.status) ≡ true = (and_parts _ _ is).0 in
        record {
          k = 0;
          one = action_view act;
          here = refl;
          kind = no_drop act.kind (and_parts _ _ more).0;
          of_job = same_name act.job job (and_parts (not (is_drop act.kind) && is_finished act.status) _ is).1;
          finished = (and_parts (not (is_drop act.kind)) _ more).1;
        }
    by_test false is later e = let one = later e in record { k = suc one.k; one = one.one; here = one.here; kind = one.kind; of_job = one.of_job; finished = one.finished }

turns_of : (all acts : List Act) → list_all (is_in_turn all) acts ≡ true → (k : ℕ) (one : ActionView) → slice_get (action_views acts) k ≡ Some one → one.kind ≡ Drop → one.finished ≡ true → IsPicked (action_views all) one.job
turns_of all [] turns k one at drop over = none_some at
turns_of all (act ∷ acts) turns zero one at drop over =
    let same : action_view act ≡ one = same_some at in
    let both : (is_drop act.kind && is_finished act.status) ≡ true = (λ i. is_drop (same i).kind && (same i).finished) ∙ ap (λ k. is_drop k && one.finished) drop ∙ over in
    subst (IsPicked (action_views all)) (ap (λ (x : ActionView). x.job) same)
    (picked_of all act.job (or_then (is_drop act.kind && is_finished act.status) _ (and_parts (is_in_turn all act) _ turns).0 both))
turns_of all (act ∷ acts) turns (suc k) one at drop over = turns_of all acts (and_parts (is_in_turn all act) _ turns).1 k one at drop over

pub after_picks : (acts : List Act) → list_all (is_in_turn acts) acts ≡ true → AfterPicks (action_views acts)
after_picks acts turns = turns_of acts acts turns
