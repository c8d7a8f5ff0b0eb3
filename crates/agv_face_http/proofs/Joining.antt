-- Cuts, answers and worlds of requests that stand one behind another, joined and parted.
use Rattle.std.proofs.Common.{◌≡◌, ℕ, Bool, true, false, List, [], ◌∷◌, ◌++◌, take, drop, take-append-drop, Result, Ok, Err, refl, sym, ap, ap₂, ◌∙◌, subst, append_assoc, append-nil}
use Rattle.agv_header.specs.declared.refusal.Refusal.{Refusal}
use Rattle.agv_world_core.specs.Worlds.{World}
use Rattle.agv_desk.specs.Outcomes.{after}
use Rattle.agv_desk.specs.Step.{step, steps}
use Rattle.agv_desk.specs.Unchanged.{only_tells}
use Rattle.agv_desk.specs.declared.call.Call.{Call}
use Rattle.agv_face_http.specs.request.Cut.{Cut, Ending, at_end, closed, faulty, no_more, a_fault, the_last, one_more}
use Rattle.agv_face_http.specs.request.Fronts.{GoesOn, StartsWithRequest}
use Rattle.agv_face_http.specs.request.Heard.{IsHeard}
use Rattle.agv_face_http.specs.Output.{answer_to, answers_to, call_of_request, calls_of, outcome_by, outcome_for, world_after}
use Rattle.agv_face_http.specs.request.Requests.{Request, IsRequest, is_last}
use Rattle.agv_face_http.specs.answers.Sizes.{only_asks}
use Rattle.agv_face_http.specs.declared.request.heard.Heard.{Heard}
use Rattle.agv_face_http.specs.declared.request.heard.Heard.TheVariants as heard
use Rattle.agv_face_http.proofs.request.Cuts.{last_and_not, no_fault, not_empty, one_request}

-- ---- cuts

pub cuts_join : (front rest : List ℕ) (rs more : List Request) (e : Ending) → Cut front rs at_end → Cut rest more e → Cut (front ++ rest) (rs ++ more) e
cuts_join front rest rs more e (no_more _ nil) cut = let P : List ℕ → Type 0 = λ l. Cut (l ++ rest) more e in subst P (sym nil) cut
cuts_join front rest rs more e (one_more _ p r x xs d is one goes later) cut =
    one_more (front ++ rest) p (r ++ rest) x (xs ++ more) e (ap (λ (l : List ℕ). l ++ rest) is ∙ append_assoc p r rest) one goes (cuts_join r rest xs more e later cut)

-- a request more
pub cut_push : (front part : List ℕ) (rs : List Request) (x : Request) → Cut front rs at_end → IsRequest part x → is_last x ≡ false → Cut (front ++ part) (rs ++ x ∷ []) at_end
cut_push front part rs x cut one goes = cuts_join front part rs (x ∷ []) at_end cut (one_more part part [] x [] at_end (sym (append-nil part)) one goes (no_more [] refl))

-- how a list goes on behind a front of it
abbrev pub GoesOnBehind : List ℕ → List Request → List Request → Ending → Type 0
GoesOnBehind rest rs all e = (more : List Request) × (all ≡ rs ++ more) × Cut rest more e

pub cuts_part : (front rest : List ℕ) (rs all : List Request) (e : Ending) → Cut front rs at_end → Cut (front ++ rest) all e → GoesOnBehind rest rs all e
cuts_part front rest rs all e (no_more _ nil) whole = let P : List ℕ → Type 0 = λ l. Cut (l ++ rest) all e in (all, refl, subst P nil whole)
cuts_part front rest rs all e (one_more _ p r x xs d is one goes later) (no_more _ nil) =
    absurd (not_empty (front ++ rest) p (r ++ rest) x (ap (λ (l : List ℕ). l ++ rest) is ∙ append_assoc p r rest) one nil)
cuts_part front rest rs all e (one_more _ p r x xs d is one goes later) (a_fault _ why fault) =
    absurd (no_fault (front ++ rest) p (r ++ rest) x why (ap (λ (l : List ℕ). l ++ rest) is ∙ append_assoc p r rest) one fault)
cuts_part front rest rs all e (one_more _ p r x xs d is one goes later) (the_last _ q s y is' one' last) =
    let here : p ++ (r ++ rest) ≡ q ++ s = sym (append_assoc p r rest) ∙ ap (λ (l : List ℕ). l ++ rest) (sym is) ∙ is' in
    let same = one_request p q (r ++ rest) s x y here one one' in
    absurd (last_and_not y x (sym same.0) last goes)
cuts_part front rest rs all e (one_more _ p r x xs d is one goes later) (one_more _ q s y ys c is' one' goes' later') =
    let here : p ++ (r ++ rest) ≡ q ++ s = sym (append_assoc p r rest) ∙ ap (λ (l : List ℕ). l ++ rest) (sym is) ∙ is' in
    let same = one_request p q (r ++ rest) s x y here one one' in
    let P : List ℕ → Type 0 = λ l. Cut l ys e in
    let tail = cuts_part r rest xs ys e later (subst P (sym same.2) later') in
    (tail.0, ap₂ ◌∷◌ (sym same.0) tail.1, tail.2)

-- what begins with a request is cut there
pub cut_begins : (bytes : List ℕ) (x : Request) (xs : List Request) (e : Ending) → StartsWithRequest x bytes → Cut bytes xs e → (others : List Request) × (xs ≡ x ∷ others)
cut_begins bytes x xs e starts (no_more _ nil) = absurd (not_empty bytes starts.0 starts.1 x starts.2 starts.3 nil)
cut_begins bytes x xs e starts (a_fault _ why fault) = absurd (no_fault bytes starts.0 starts.1 x why starts.2 starts.3 fault)
cut_begins bytes x xs e starts (the_last _ q s y is one last) =
    let same = one_request starts.0 q starts.1 s x y (sym starts.2 ∙ is) starts.3 one in ([], ap (λ (z : Request). z ∷ []) (sym same.0))
cut_begins bytes x xs e starts (one_more _ q s y ys d is one goes later) =
    let same = one_request starts.0 q starts.1 s x y (sym starts.2 ∙ is) starts.3 one in (ys, ap (λ (z : Request). z ∷ ys) (sym same.0))

-- ---- what is heard behind a front

starts_so : (buf more : List ℕ) (len : ℕ) (x : Request) → IsRequest (take len buf) x → StartsWithRequest x (buf ++ more)
starts_so buf more len x one =
    let part : buf ≡ take len buf ++ drop len buf = sym (take-append-drop len buf) in
    (take len buf, drop len buf ++ more, ap (λ (l : List ℕ). l ++ more) part ∙ append_assoc (take len buf) (drop len buf) more, one)

pub goes_on : (front buf : List ℕ) (ended : Bool) (rs : List Request) (told : Heard) → Cut front rs at_end → IsHeard buf ended told → GoesOn front buf ended rs told
goes_on front buf ended rs heard.Need cut is = record { front = front; rest = buf; parts = refl; cut = cut; rest_is = is.2 }
goes_on front buf ended rs heard.End cut is = let P : List ℕ → Type 0 = λ l. Cut l rs at_end in subst P (sym (ap (λ (l : List ℕ). front ++ l) is.1 ∙ append-nil front)) cut
goes_on front buf ended rs (heard.Fault why) cut is = λ more follows.
    let P : List Request → Type 0 = λ l. Cut (front ++ (buf ++ more)) l (faulty why) in
    subst P (append-nil rs) (cuts_join front (buf ++ more) rs [] (faulty why) cut (a_fault (buf ++ more) why (is more follows)))
goes_on front buf ended rs (heard.Request lent) cut is =
    let request = is.2 in
    let starts : (more : List ℕ) → StartsWithRequest request (buf ++ more) = λ more. starts_so buf more lent.len request is.3 in (
      request,
      record {
        is_lent = is.4;
        stays_open = λ goes. cut_push front (take lent.len buf) rs request cut is.3 (sym is.4.close ∙ goes);
        closes = λ last more. let part = starts more in cuts_join front (buf ++ more) rs (request ∷ []) closed cut (the_last (buf ++ more) part.0 part.1 request part.2 part.3 (sym is.4.close ∙ last));
        next = λ more. record { front = front; rest = buf ++ more; parts = refl; cut = cut; rest_is = starts more };
      },
    )

-- ---- answers and worlds

module _ (seats : ℕ) (at : ℕ) where
  pub answers_join : (world : World) (rs more : List Request) → answers_to seats world at (rs ++ more) ≡ answers_to seats world at rs ++ answers_to seats (world_after seats world at rs) at more
  unfolding answers_to world_after
  answers_join world [] more = refl
  answers_join world (r ∷ rs) more =
      let next = after world (outcome_for seats world at r) in
      ap (λ (l : List ℕ). answer_to seats world at r ++ l) (answers_join next rs more)
      ∙ sym (append_assoc (answer_to seats world at r) (answers_to seats next at rs) (answers_to seats (world_after seats next at rs) at more))

  pub worlds_join : (world : World) (rs more : List Request) → world_after seats world at (rs ++ more) ≡ world_after seats (world_after seats world at rs) at more
  unfolding world_after
  worlds_join world [] more = refl
  worlds_join world (r ∷ rs) more = worlds_join (after world (outcome_for seats world at r)) rs more

  -- one request
  pub world_of_one : (world : World) (r : Request) → world_after seats world at (r ∷ []) ≡ after world (outcome_for seats world at r)
  unfolding world_after
  world_of_one world r = refl

  pub answers_of_one : (world : World) (r : Request) → answers_to seats world at (r ∷ []) ≡ answer_to seats world at r
  unfolding answers_to
  answers_of_one world r = append-nil (answer_to seats world at r)

  -- a request that is no call leaves the world
  pub refused_leaves : (world : World) (r : Request) (why : Refusal) → call_of_request r ≡ Err why → after world (outcome_for seats world at r) ≡ world
  unfolding after outcome_for
  refused_leaves world r why is = ap (λ (read : Result Call Refusal). after world (outcome_by seats world at read)) is

  -- nor does one that only asks change it, where its call does not
  asked_leaves : (world : World) → ((made : Call) → only_tells made ≡ true → after world (step seats world at made) ≡ world)
      → (read : Result Call Refusal) → only_asks read ≡ true → after world (outcome_by seats world at read) ≡ world
  asked_leaves world tells (Err why) asks = absurd (cc)
  asked_leaves world tells (Ok made) asks = tells made asks

  pub only_asking_leaves : (world : World) → ((made : Call) → only_tells made ≡ true → after world (step seats world at made) ≡ world)
      → (r : Request) → only_asks (call_of_request r) ≡ true → after world (outcome_for seats world at r) ≡ world
  unfolding outcome_for
  only_asking_leaves world tells r asks = asked_leaves world tells (call_of_request r) asks

  -- the worlds are those of the calls
  steps_by : (world : World) (rs : List Request) (read : Result Call Refusal) (r : Request) → call_of_request r ≡ read → ((then : World) → world_after seats then at rs ≡ steps seats then (calls_of rs at))
      → world_after seats (after world (outcome_by seats world at read)) at rs ≡ steps seats world (calls_of (r ∷ rs) at)
  unfolding after
  steps_by world rs (Err why) r is later = rw is (later world)
  steps_by world rs (Ok call) r is later = rw is (later (after world (step seats world at call)))

  pub steps_of_calls : (world : World) (rs : List Request) → world_after seats world at rs ≡ steps seats world (calls_of rs at)
  unfolding world_after outcome_for
  steps_of_calls world [] = refl
  steps_of_calls world (r ∷ rs) = steps_by world rs (call_of_request r) r refl (λ then. steps_of_calls then rs)
