-- What follows from a judgement.
use Rattle.std.proofs.Common.{◌≡◌, ◌≢◌, ◌⊎◌, inl, inr, is_some, ℕ, zero, suc, ◌+◌, ◌/◌, ◌%◌, ◌<◌, ◌≤◌, Bool, true, false, not, ◌&&◌, ◌||◌, ◌==◌, nat_lt, if◌then◌else◌, List, [], ◌∷◌, length, map, Option, Some, None, Result, Ok, Err, refl, sym, ap, subst, ◌∙◌, arith, true≢false}
use Rattle.std.specs.List.{slice_get, list_all, list_any, zip}
use Rattle.std.specs.Option.{option_map}
use Rattle.std.proofs.lemmas.Bool.{cases_lt}
use Rattle.agv_header.specs.declared.refusal.Refusal.{Refusal}
use Rattle.agv_layout.specs.Layout.{Layout}
use Rattle.agv_layout.specs.declared.edge.Edge.{Edge}
use Rattle.agv_message_core.specs.declared.status.Status.TheVariants.{Waiting, Initializing, Running, Paused, Finished, Failed}
use Rattle.std.proofs.lemmas.List.{length-map}
use Rattle.agv_message_core.specs.declared.state.StateMessage.{StateMessage}
use Rattle.agv_message_core.specs.declared.status.Status.{Status}
use Rattle.agv_order.specs.Statuses.{is_final, may_follow, merge}
use Rattle.agv_order.specs.Trips.{node_at, task_of}
use Rattle.agv_order.specs.WellFormed.{IsConfirmed, IsPlanned, IsUnderWay, IsWellFormed, is_reached, is_in_turn, is_over}
use Rattle.agv_order.specs.declared.act.Act.{Act}
use Rattle.agv_order.specs.declared.trip.Trip.{Trip}
use Rattle.agv_track.specs.Judgements.{new_statuses, new_acts, goes_back, way_refusals, act_refusals, first_of, unless, eight, is_through, end_by, end_after, next_of, rest_after, progress_of, judged}
use Rattle.agv_track.specs.Progressed.{progressed, ActGoesOn, IsNextOf, Advances}
use Rattle.agv_track.specs.Reached.{is_at_start, reported_node, is_named, names_node, is_our_node, is_before, base_of}
use Rattle.agv_track.specs.Reports.{with_status, renewed, is_cancelled}
use Rattle.agv_track.proofs.Eight.{zip-eight, length-new_statuses}
use Rattle.agv_track.specs.declared.pending.Pending.{Pending}
use Rattle.agv_track.specs.declared.progress.End.TheVariants.{Stopped}
use Rattle.agv_track.specs.declared.progress.Progress.{Progress}

-- ---- which tests an accepted state has passed
pub record Passed (trip : Trip) (pending : Option Pending) (state : StateMessage) : Type 0 where
  pub sent : nat_lt trip.sent state.update ≡ false
  pub confirmed : is_before state.update trip.confirmed ≡ false
  pub ours : is_our_node trip state ≡ true
  pub forward : nat_lt (reported_node state) trip.seen ≡ false
  pub released : nat_lt (base_of trip state.update) (reported_node state) ≡ false
  pub follows : list_any goes_back (zip trip.acts (new_statuses trip state)) ≡ false
  pub reached : list_all (is_reached (reported_node state)) (new_acts trip state) ≡ true
  pub in_turn : list_all (is_in_turn (new_acts trip state)) (new_acts trip state) ≡ true

abbrev NoneMet : List (Bool × Refusal) → Type 0
NoneMet [] = Unit {0}
NoneMet (line ∷ lines) = (line.0 ≡ false) × NoneMet lines

none-met : (lines : List (Bool × Refusal)) → first_of lines ≡ None → NoneMet lines
none-met [] e = tt
none-met (line ∷ lines) e = by_test (none-met lines) line.0 refl e
  where
    by_test : (first_of lines ≡ None → NoneMet lines) → (b : Bool) → line.0 ≡ b → (if b then Some line.1 else first_of lines) ≡ None → (line.0 ≡ false) × NoneMet lines
    by_test later true is e = cc
    by_test later false is e = (is, later e)

was_true : (b : Bool) → not b ≡ false → b ≡ true
was_true true e = refl
was_true false e = cc

passed : (trip : Trip) (pending : Option Pending) (state : StateMessage) → first_of (way_refusals trip state) ≡ None → first_of (act_refusals trip pending state) ≡ None → Passed trip pending state
unfolding way_refusals act_refusals
passed trip pending state way acts =
    let w = none-met (way_refusals trip state) way in
    let a = none-met (act_refusals trip pending state) acts in
    record {
      sent = w.0;
      confirmed = w.1.0;
      ours = was_true _ w.1.1.0;
      forward = w.1.1.1.0;
      released = w.1.1.1.1.0;
      follows = a.1.0;
      reached = was_true _ a.1.1.0;
      in_turn = was_true _ a.1.1.1.0;
    }

unless-ok : (o p : Option Refusal) (made progress : Progress) → unless o (unless p (Ok made)) ≡ Ok progress → (o ≡ None) × (p ≡ None) × (progress ≡ made)
unless-ok None None made progress e = (refl, refl, same_ok made progress e)
  where
    same_ok : (a b : Progress) → ◌≡◌ {A = Result Progress Refusal} (Ok a) (Ok b) → b ≡ a
    same_ok a b e = cc
unless-ok None (Some why) made progress e = absurd (not_ok why progress e)
  where
    not_ok : (why : Refusal) (b : Progress) → ◌≡◌ {A = Result Progress Refusal} (Err why) (Ok b) → ⊥
    not_ok why b e = cc
unless-ok (Some why) p made progress e = absurd (not_ok why progress e)
  where
    not_ok : (why : Refusal) (b : Progress) → ◌≡◌ {A = Result Progress Refusal} (Err why) (Ok b) → ⊥
    not_ok why b e = cc

-- an accepted state has passed all tests, and its progress is that of the definition
pub judged-ok : (trip : Trip) (pending : Option Pending) (state : StateMessage) (progress : Progress) → judged trip pending state ≡ Ok progress → Passed trip pending state × (progress ≡ progress_of trip pending state)
unfolding judged
judged-ok trip pending state progress e =
    let h = unless-ok (first_of (way_refusals trip state)) (first_of (act_refusals trip pending state)) (progress_of trip pending state) progress e in
    (passed trip pending state h.0 h.1, h.2)

-- ---- numbers
not-lt : (a b : ℕ) → nat_lt a b ≡ false → b ≤ a
not-lt a b e = grind arith

same-number : (a b : ℕ) → (a == b) ≡ true → a ≡ b
same-number a b e = grind arith

other-number : (a b : ℕ) → (a == b) ≡ false → a ≢ b
other-number a b e = grind arith

-- the base of the update is the last one's, or the place where the last one begins
base-cases : (trip : Trip) (update : ℕ) → ((update ≡ trip.sent) × (base_of trip update ≡ trip.base)) ⊎ ((update ≢ trip.sent) × (base_of trip update ≡ trip.first))
base-cases trip update = by_test (update == trip.sent) refl
  where
    by_test : (b : Bool) → (update == trip.sent) ≡ b → ((update ≡ trip.sent) × ((if update == trip.sent then trip.base else trip.first) ≡ trip.base)) ⊎ ((update ≢ trip.sent) × ((if update == trip.sent then trip.base else trip.first) ≡ trip.first))
    by_test true e = inl (same-number _ _ e, ap (λ b. if b then trip.base else trip.first) e)
    by_test false e = inr (other-number _ _ e, ap (λ b. if b then trip.base else trip.first) e)

-- the update after the confirmed one, or the confirmed one, is the last one or the one before it
confirmed-after : (trip : Trip) (update : ℕ) (confirmed : Option ℕ) → IsConfirmed trip confirmed → is_before update confirmed ≡ false → update ≤ trip.sent → (update ≡ trip.sent) ⊎ (update + 1 ≡ trip.sent)
confirmed-after trip update None h e le = inl (omega arith)
confirmed-after trip update (Some c) (inl is) e le = let h = not-lt update c e in inl (omega arith)
confirmed-after trip update (Some c) (inr is) e le = let h = not-lt update c e in elim (cases_lt update trip.sent) [
  | inl lt ↦ inr (omega arith)
  | inr ge ↦ inl (omega arith)
]

is-confirmed : (trip : Trip) (state : StateMessage) → IsUnderWay trip → is_before state.update trip.confirmed ≡ false → state.update ≤ trip.sent → reported_node state ≤ base_of trip state.update
    → (state.update ≡ trip.sent) ⊎ ((state.update + 1 ≡ trip.sent) × (reported_node state ≤ trip.first))
is-confirmed trip state under e le within = elim (confirmed-after trip state.update trip.confirmed under.confirmed e le) [
  | inl same ↦ inl same
  | inr before ↦ elim (base-cases trip state.update) [
    | inl last ↦ inl last.0
    | inr first ↦ let b : base_of trip state.update ≡ trip.first = first.1 in inr (before, omega arith)
  ]
]

in-base : (trip : Trip) (state : StateMessage) → IsUnderWay trip → reported_node state ≤ base_of trip state.update → reported_node state ≤ trip.base
in-base trip state under within = elim (base-cases trip state.update) [
  | inl last ↦ let b : base_of trip state.update ≡ trip.base = last.1 in omega arith
  | inr first ↦ let b : base_of trip state.update ≡ trip.first = first.1 in let f = under.in_base in omega arith
]

-- ---- the node
named : (o : Option (List ℕ)) (text : List ℕ) → is_named o text ≡ true → (name : List ℕ) × (o ≡ Some name)
named None text e = cc
named (Some name) text e = (name, refl)

and-right : (a b : Bool) → (a && b) ≡ true → b ≡ true
and-right true b e = e
and-right false b e = cc

node-found : (trip : Trip) (state : StateMessage) → is_our_node trip state ≡ true → (name : List ℕ) × (node_at trip (reported_node state) ≡ Some name)
node-found trip state ours = by_test (is_at_start state) refl ours
  where
    by_test : (b : Bool) → is_at_start state ≡ b → (b || names_node trip state) ≡ true → (name : List ℕ) × (node_at trip (if is_at_start state then 0 else state.last_seq / 2) ≡ Some name)
    by_test true is e = (trip.start, ap (λ c. node_at trip (if c then 0 else state.last_seq / 2)) is)
    by_test false is e =
        let found = named (node_at trip (state.last_seq / 2)) state.last_node (and-right (state.last_seq % 2 == 0) _ e) in
        (found.0, ap (λ c. node_at trip (if c then 0 else state.last_seq / 2)) is ∙ found.1)

-- ---- the acts
follows-of : (old new : Status) → not (is_some (merge old new)) ≡ false → may_follow old new ≡ true
follows-of old new e = by_test (may_follow old new) e
  where
    by_test : (b : Bool) → not (is_some (if b then Some new else None)) ≡ false → b ≡ true
    by_test true e = refl
    by_test false e = cc

or-left : (a b : Bool) → (a || b) ≡ false → a ≡ false
or-left true b e = cc
or-left false b e = refl

or-right : (a b : Bool) → (a || b) ≡ false → b ≡ false
or-right true b e = cc
or-right false b e = e

act-after : (acts : List Act) (statuses : List Status) → length acts ≡ length statuses → list_any goes_back (zip acts statuses) ≡ false
    → (k : ℕ) (before : Act) → slice_get acts k ≡ Some before → (after : Act) × (slice_get (renewed acts statuses) k ≡ Some after) × ActGoesOn before after
act-after [] statuses same back k before at = absurd (no_act before at)
  where
    no_act : (act : Act) → None ≡ Some act → ⊥
    no_act act e = cc
act-after (u ∷ acts) [] same back k before at = absurd (omega arith)
act-after (u ∷ acts) (s ∷ statuses) same back zero before at =
    let is : u ≡ before = same_act u before at in
    subst (λ (b : Act). (after : Act) × (Some (with_status (u, s)) ≡ Some after) × ActGoesOn b after) is (with_status (u, s), refl, record { task = refl; follows = follows-of u.status s (or-left _ _ back) })
  where
    same_act : (a b : Act) → Some a ≡ Some b → a ≡ b
    same_act a b e = cc
act-after (u ∷ acts) (s ∷ statuses) same back (suc k) before at = act-after acts statuses (omega arith) (or-right (goes_back (u, s)) _ back) k before at

tasks-after : (acts : List Act) (statuses : List Status) → length acts ≡ length statuses → map task_of (renewed acts statuses) ≡ map task_of acts
tasks-after [] statuses same = refl
tasks-after (u ∷ acts) [] same = absurd (omega arith)
tasks-after (u ∷ acts) (s ∷ statuses) same = ap (λ rest. task_of u ∷ rest) (tasks-after acts statuses (omega arith))

-- the acts of the progress are those after the state
acts-eight : (trip : Trip) (state : StateMessage) → length trip.acts ≤ 8 → renewed trip.acts (eight (new_statuses trip state)) ≡ new_acts trip state
acts-eight trip state few = ap (map with_status) (zip-eight trip.acts (new_statuses trip state) (length-new_statuses trip state) few)

-- ---- the end
some-none : {A : Type 0} (x : A) → Some x ≡ None → ⊥
some-none x e = cc

not-through : (trip : Trip) (pending : Option Pending) (state : StateMessage) → end_after trip pending state ≡ None → is_through trip state ≡ false
not-through trip pending state e = by_test (is_through trip state) e
  where
    by_test : (b : Bool) → (if b then Some (end_by (new_acts trip state)) else (if is_cancelled state.actions pending then Some Stopped else None)) ≡ None → b ≡ false
    by_test true e = absurd (some-none _ e)
    by_test false e = refl

still-open : (k n : ℕ) (over : Bool) → ((k == n) && over) ≡ false → k ≡ n → over ≡ true → ⊥
still-open k n over e same is = true≢false (sym (ap (λ b. b && over) (itself k n same) ∙ is) ∙ e)
  where
    itself : (k n : ℕ) → k ≡ n → (k == n) ≡ true
    itself k n same = grind arith

-- ---- the rest
next-of : (trip : Trip) (k : ℕ) (rest : List ℕ × List ℕ) → next_of trip k ≡ Some rest → IsNextOf trip k rest
next-of trip k rest e = by_test (nat_lt k trip.base) refl e
  where
    found : (o : Option Edge) → slice_get trip.edges k ≡ o → k < trip.base → option_map (λ (edge : Edge). (edge.id, edge.finish)) o ≡ Some rest → IsNextOf trip k rest
    found None at lt e = absurd (some-none rest (sym e))
    found (Some edge) at lt e =
        let same : (edge.id, edge.finish) ≡ rest = same_rest (edge.id, edge.finish) rest e in
        record { edge = edge; there = at; released = lt; id = ap (λ (r : List ℕ × List ℕ). r.0) (sym same); finish = ap (λ (r : List ℕ × List ℕ). r.1) (sym same) }
      where
        same_rest : (a b : List ℕ × List ℕ) → Some a ≡ Some b → a ≡ b
        same_rest a b e = cc

    by_test : (b : Bool) → nat_lt k trip.base ≡ b → (if b then option_map (λ (edge : Edge). (edge.id, edge.finish)) (slice_get trip.edges k) else None) ≡ Some rest → IsNextOf trip k rest
    by_test true is e = found (slice_get trip.edges k) refl (was-lt k trip.base is) e
      where
        was-lt : (a b : ℕ) → nat_lt a b ≡ true → a < b
        was-lt a b e = grind arith
    by_test false is e = absurd (some-none rest (sym e))

rest-cases : (trip : Trip) (pending : Option Pending) (state : StateMessage) (rest : List ℕ × List ℕ) → rest_after trip pending state ≡ Some rest → (end_after trip pending state ≡ Some Stopped) × IsNextOf trip (reported_node state) rest
rest-cases trip pending state rest e = by_tests (is_through trip state) (is_cancelled state.actions pending) e
  where
    by_tests : (a b : Bool) → (if not a && b then next_of trip (reported_node state) else None) ≡ Some rest → ((if a then Some (end_by (new_acts trip state)) else (if b then Some Stopped else None)) ≡ Some Stopped) × IsNextOf trip (reported_node state) rest
    by_tests true b e = absurd (some-none rest (sym e))
    by_tests false true e = (refl, next-of trip (reported_node state) rest e)
    by_tests false false e = absurd (some-none rest (sym e))

-- ---- all of it
under-way-after : (trip : Trip) (pending : Option Pending) (state : StateMessage) → IsUnderWay trip → Passed trip pending state → (acts : List Act) → acts ≡ new_acts trip state → end_after trip pending state ≡ None
    → IsUnderWay (record trip { confirmed = Some state.update; seen = reported_node state; acts = acts })
under-way-after trip pending state under p acts is open-still =
    let le = not-lt trip.sent state.update p.sent in
    let within = not-lt (base_of trip state.update) (reported_node state) p.released in
    let through = not-through trip pending state open-still in
    record {
      in_base = under.in_base;
      on_way = under.on_way;
      seen_released = in-base trip state under within;
      sent_released = under.sent_released;
      begins = under.begins;
      grows = under.grows;
      confirmed = is-confirmed trip state under p.confirmed le within;
      reached = ap (list_all (is_reached (reported_node state))) is ∙ p.reached;
      in_turn = ap (λ all. list_all (is_in_turn all) all) is ∙ p.in_turn;
      is_open = λ done. still-open (reported_node state) (length trip.edges) (list_all is_over (new_acts trip state)) through done.0 (sym (ap (list_all is_over) is) ∙ done.1);
    }

advances : (trip : Trip) (pending : Option Pending) (state : StateMessage) → IsUnderWay trip → length trip.acts ≤ 8 → Passed trip pending state → Advances trip (progress_of trip pending state)
unfolding progress_of
advances trip pending state under few p =
    let within = not-lt (base_of trip state.update) (reported_node state) p.released in
    let same = acts-eight trip state few in
    let tasks : map task_of (renewed trip.acts (eight (new_statuses trip state))) ≡ map task_of trip.acts = ap (map task_of) same ∙ tasks-after trip.acts (new_statuses trip state) (length-new_statuses trip state) in
    record {
      plan = λ i. record { start = trip.start; edges = trip.edges; tasks = tasks i };
      forward = not-lt (reported_node state) trip.seen p.forward;
      released = in-base trip state under within;
      node = node-found trip state p.ours;
      acts = λ k before at.
          subst (λ all. (after : Act) × (slice_get all k ≡ Some after) × ActGoesOn before after) (sym same) (act-after trip.acts (new_statuses trip state) (length-new_statuses trip state) p.follows k before at);
      under_way = under-way-after trip pending state under p _ same;
      rest = rest-cases trip pending state;
    }

-- a trip that is under way advances by a state that is accepted
pub judged-advances : (trip : Trip) (pending : Option Pending) (state : StateMessage) (progress : Progress) → IsUnderWay trip → length trip.acts ≤ 8 → judged trip pending state ≡ Ok progress → Advances trip progress
judged-advances trip pending state progress under few e =
    let h = judged-ok trip pending state progress e in
    subst (Advances trip) (sym h.1) (advances trip pending state under few h.0)

-- a well-formed trip that has not ended is well formed afterwards
pub judged-well-formed : (layout : Layout) (trip : Trip) (pending : Option Pending) (state : StateMessage) (progress : Progress) → IsWellFormed layout trip → judged trip pending state ≡ Ok progress → progress.«end» ≡ None → IsWellFormed layout (progressed trip progress)
judged-well-formed layout trip pending state progress well e open-still =
    let h = judged-advances trip pending state progress well.under_way (few-acts trip well.planned.few) e in
    record { planned = subst (IsPlanned layout) (sym h.plan) well.planned; under_way = h.under_way open-still }
  where
    few-acts : (trip : Trip) → length (map task_of trip.acts) ≤ 8 → length trip.acts ≤ 8
    few-acts trip few = omega (arith, length-map trip.acts task_of)

-- a status that is final stays, so an act becomes finished at most once
pub final-stays : (before after : Act) → ActGoesOn before after → is_over before ≡ true → after.status ≡ before.status
final-stays before after goes over = by_status before.status after.status goes.follows over
  where
    by_status : (old new : Status) → may_follow old new ≡ true → is_final old ≡ true → new ≡ old
    by_status Waiting new f e = cc
    by_status Initializing new f e = cc
    by_status Running new f e = cc
    by_status Paused new f e = cc
    by_status Finished Waiting f e = cc
    by_status Finished Initializing f e = cc
    by_status Finished Running f e = cc
    by_status Finished Paused f e = cc
    by_status Finished Finished f e = refl
    by_status Finished Failed f e = cc
    by_status Failed Waiting f e = cc
    by_status Failed Initializing f e = cc
    by_status Failed Running f e = cc
    by_status Failed Paused f e = cc
    by_status Failed Finished f e = cc
    by_status Failed Failed f e = refl
