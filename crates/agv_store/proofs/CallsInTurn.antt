-- What a list of calls leaves of a connection to the desk's tables.
use Rattle.std.proofs.Common.{◌≡◌, ◌⊎◌, ◌+◌, ◌<◌, ◌++◌, ℕ, Bool, true, false, List, [], ◌∷◌, None, Some, Result, Err, ◌≤◌, IsTrue, length, length-append, take, get_or, inl, inr, refl, sym, ap, subst, ◌∙◌, arith}
use Rattle.std.proofs.lemmas.Bool.{both_ways}
use Rattle.std.proofs.lemmas.List.{take_more}
use Rattle.sqlite_trees.specs.declared.store.Store.{Ghosts}
use Rattle.sqlite_trees.specs.Tree.{Trees}
use Rattle.sqlite.specs.Effect.{Database}
use Rattle.sqlite.specs.Held.{state}
use Rattle.sqlite.specs.State.{Survives}
use Rattle.agv_world_core.specs.Worlds.{World}
use Rattle.agv_world_core.specs.declared.fault.Fault.{Fault}
use Rattle.agv_world_core.specs.declared.fault.Fault.TheVariants as machine
use Rattle.agv_desk.specs.Step.{answers, steps}
use Rattle.agv_desk.specs.declared.answer.Answer.{Answer}
use Rattle.agv_desk.specs.declared.call.Call.{Call}
use Rattle.agv_store_read_tables.specs.WorldIn.{world_in}
use Rattle.agv_store_schema.specs.DeskRows.{IsDesk, KeepsOthers, Placing}
use Rattle.agv_store_schema.specs.SchemaNumbers.{desk_seats}
use Rattle.agv_store_schema.specs.Connections.{IsClean, IsLater, IsOpen}
use Rattle.agv_store_schema.proofs.Later.{later_by, later_refl, later_trans}
use Rattle.agv_store_floor.specs.Floors.{Keyed, Knows, world_at}
use Rattle.agv_store.specs.Running.{HasDatabase, IsRun, IsStopped, LeavesLast, stopped_end, world_till}
use Rattle.agv_store.specs.Serving.{FoundIn, IsServedBy, LeavesAll, LeavesCall, answer_in, world_after}
use Rattle.agv_store.proofs.Crashes.{either, has_weaker, known}
use Rattle.agv_store.proofs.Writing.{DatabaseTells, world_known}

-- the laws that are cited
abbrev pub WorldsInTurn : Type 0
WorldsInTurn = (seats : ℕ) (world : World) (calls others : List (ℕ × Call)) → steps seats world (calls ++ others) ≡ steps seats (steps seats world calls) others

abbrev pub AnswersInTurn : Type 0
AnswersInTurn = (seats : ℕ) (world : World) (calls others : List (ℕ × Call)) → answers seats world (calls ++ others) ≡ (answers seats world calls ++ answers seats (steps seats world calls) others)

abbrev pub OthersStay : Type 0
OthersStay = (desk : Placing) (db : Database) → KeepsOthers desk db db

abbrev pub OthersStayOn : Type 0
OthersStayOn = (desk : Placing) (old mid new : Database) → KeepsOthers desk old mid → KeepsOthers desk mid new → KeepsOthers desk old new

-- ---- one call more

module _ (world : World) (calls : List (ℕ × Call)) (n : ℕ) (made : ℕ × Call) (low : n < length calls) (is : made ≡ get_or calls n made) where
  next : take (n + 1) calls ≡ take n calls ++ made ∷ []
  next = take_more calls n made low ∙ ap (λ (m : ℕ × Call). take n calls ++ m ∷ []) (sym is)

  pub next_world : WorldsInTurn → world_till world calls (n + 1) ≡ world_after (world_till world calls n) made.0 made.1
  next_world turn = ap (λ (list : List (ℕ × Call)). steps desk_seats world list) next ∙ turn desk_seats world (take n calls) (made ∷ [])

  pub next_answers : AnswersInTurn → answers desk_seats world (take (n + 1) calls) ≡ (answers desk_seats world (take n calls) ++ answer_in (world_till world calls n) made.0 made.1 ∷ [])
  next_answers turn = ap (λ (list : List (ℕ × Call)). answers desk_seats world list) next ∙ turn desk_seats world (take n calls) (made ∷ [])

one_longer : (given : List Answer) (answer : Answer) → length (given ++ answer ∷ []) ≡ length given + 1
one_longer given answer = omega (arith, length-append given (answer ∷ []))

pub longer_by_one : (more given : List Answer) (answer : Answer) → more ≡ given ++ answer ∷ [] → length more ≡ length given + 1
longer_by_one more given answer longer = ap length longer ∙ one_longer given answer

-- ---- a desk that has failed

stopped_first : (calls : List (ℕ × Call)) {n : ℕ} → n < length calls → stopped_end calls ≡ Some machine.Storage
stopped_first [] low = absurd (omega (arith, low))
stopped_first (made ∷ calls) low = refl

stopped_none : (calls : List (ℕ × Call)) → length calls ≡ 0 → stopped_end calls ≡ None
stopped_none [] none = refl
stopped_none (made ∷ calls) none = absurd (omega (arith, none))

-- a call that fails so
abbrev failing : Fault → Result Answer Fault
failing why = Err why

storage_by : (why : Fault) → failing why ≡ failing machine.Storage → why ≡ machine.Storage
storage_by machine.Storage is = refl
storage_by machine.Memory is = absurd (cc is)

empty_or_some : (given : List Answer) → (given ≡ []) ⊎ (0 < length given)
empty_or_some [] = inl refl
empty_or_some (answer ∷ given) = inr (omega arith)

-- without memory for the answers
pub stopped_unreserved : {S : Type 0} (desk : Keyed S) (calls : List (ℕ × Call)) (capacity : ℕ) (given : List Answer) → given ≡ [] → (length calls ≤ capacity → ⊥) → IsStopped desk desk calls capacity given (Some machine.Memory)
stopped_unreserved desk calls capacity given none lacks = record { unchanged = refl; none = none; ends = λ has. absurd (lacks has) }

module _ {S : Type 0} (g : Ghosts S) where
  -- these calls were answered between the two moments, and none came after them
  pub record HasServed (old now : Keyed S) (calls : List (ℕ × Call)) (given : List Answer) : Type 0 where
    pub later : IsLater g old.held now.held
    -- before the first answer the desk is as it was
    pub untouched : given ≡ [] → now ≡ old
    pub failed : now.failed ≡ old.failed
    pub works : 0 < length given → now.failed ≡ false
    pub answers_are : IsClean g now.held → given ≡ answers desk_seats (world_at g old.held) (take (length given) calls)
    pub world_is : IsClean g now.held → world_at g now.held ≡ world_till (world_at g old.held) calls (length given)
    pub is_open : 0 < length given → IsClean g now.held → IsOpen g now.held
    pub knew : IsClean g now.held → IsOpen g now.held → Knows g old.held (world_at g old.held)
    pub knows : IsClean g now.held → IsOpen g now.held → Knows g now.held (world_at g now.held)
    pub still : IsClean g now.held → Knows g old.held (world_at g old.held) → Knows g now.held (world_at g now.held)
    pub others : IsClean g now.held → (desk : Placing) → IsDesk desk → (state g old.held).now.schema ≡ desk.schema → KeepsOthers desk (state g old.held).now (state g now.held).now

  -- ---- no call yet

  none_served : OthersStay → (old : Keyed S) (calls : List (ℕ × Call)) → (IsClean g old.held → IsOpen g old.held → Knows g old.held (world_at g old.held)) → HasServed old old calls []
  none_served stay old calls knows = record {
    later = later_refl g old.held;
    untouched = λ _. refl;
    failed = refl;
    works = λ none. absurd (omega (arith, none));
    answers_are = λ _. refl;
    world_is = λ _. refl;
    is_open = λ none. absurd (omega (arith, none));
    knew = knows;
    knows = knows;
    still = λ _ knew. knew;
    others = λ _ desk is has. stay desk (state g old.held).now;
  }

  pub served_none : OthersStay → (old : Keyed S) (calls : List (ℕ × Call)) (given : List Answer) → given ≡ [] → (IsClean g old.held → IsOpen g old.held → Knows g old.held (world_at g old.held)) → HasServed old old calls given
  served_none stay old calls given empty knows = subst (λ (list : List Answer). HasServed old old calls list) (sym empty) (none_served stay old calls knows)

  -- a desk that had failed before answers none
  none_given : {old now : Keyed S} {calls : List (ℕ × Call)} {given : List Answer} → HasServed old now calls given → old.failed ≡ true → given ≡ []
  none_given {given = given} served had_failed = elim (empty_or_some given) [
    | inl none ↦ none
    | inr some ↦ absurd (both_ways _ (served.works some) (served.failed ∙ had_failed))
  ]

  -- ---- one call more is served

  module _ (old mid new : Keyed S) (calls : List (ℕ × Call)) (given : List Answer) (so_far : HasServed old mid calls given)
      (i : ℕ) (so_many : length given ≡ i) (made : ℕ × Call) (in_list : i < length calls) (is_at : made ≡ get_or calls i made)
      (crash : Survives (state g mid.held) (state g new.held) (LeavesCall g mid.held made.0 made.1)) where
    once : IsLater g mid.held new.held
    once = later_by g mid.held new.held crash

    later : IsLater g old.held new.held
    later = later_trans g old.held mid.held new.held so_far.later once

    clean_mid : IsClean g new.held → IsClean g mid.held
    clean_mid = once.clean

    low : length given < length calls
    low = subst (λ (n : ℕ). n < length calls) (sym so_many) in_list

    is : made ≡ get_or calls (length given) made
    is = subst (λ (n : ℕ). made ≡ get_or calls n made) (sym so_many) is_at

    abbrev start : World
    start = world_at g old.held

    -- it is answered
    module _ (tells : DatabaseTells) (stay_on : OthersStayOn) (worlds_turn : WorldsInTurn) (answers_turn : AnswersInTurn) (answer : Answer)
        (knew : IsClean g new.held → Knows g mid.held (world_at g mid.held))
        (serves : IsClean g new.held → IsServedBy g mid.held new.held made.0 made.1 answer)
        (works : new.failed ≡ false) (fails : mid.failed ≡ true → new.failed ≡ true) where
      had_worked : (b : Bool) → (b ≡ true → new.failed ≡ true) → b ≡ false
      had_worked true so = absurd (both_ways new.failed works (so refl))
      had_worked false so = refl

      world_now : IsClean g new.held → world_at g new.held ≡ world_after (world_at g mid.held) made.0 made.1
      world_now clean = world_known g tells new.held (world_after (world_at g mid.held) made.0 made.1) (serves clean).knows

      knows_now : IsClean g new.held → Knows g new.held (world_at g new.held)
      knows_now clean = subst (λ (w : World). Knows g new.held w) (sym (world_now clean)) (serves clean).knows

      one_more : HasServed old new calls (given ++ answer ∷ [])
      one_more = record {
        later = later;
        untouched = λ none. let e : length (given ++ answer ∷ []) ≡ 0 = ap length none in absurd (omega (arith, e, one_longer given answer));
        failed = works ∙ sym (had_worked mid.failed fails) ∙ so_far.failed;
        works = λ _. works;
        answers_are = λ clean.
            let world_is = so_far.world_is (clean_mid clean) in
            let first = ap (λ (list : List Answer). list ++ answer ∷ []) (so_far.answers_are (clean_mid clean)) in
            let last = (serves clean).answer_is ∙ ap (λ (w : World). answer_in w made.0 made.1) world_is in
            first
            ∙ ap (λ (a : Answer). answers desk_seats start (take (length given) calls) ++ a ∷ []) last
            ∙ sym (next_answers start calls (length given) made low is answers_turn)
            ∙ ap (λ (n : ℕ). answers desk_seats start (take n calls)) (sym (one_longer given answer));
        world_is = λ clean.
            world_now clean
            ∙ ap (λ (w : World). world_after w made.0 made.1) (so_far.world_is (clean_mid clean))
            ∙ sym (next_world start calls (length given) made low is worlds_turn)
            ∙ ap (λ (n : ℕ). world_till start calls n) (sym (one_longer given answer));
        is_open = λ _ clean. (serves clean).knows.is_open;
        knew = λ clean _. so_far.knew (clean_mid clean) (knew clean).is_open;
        knows = λ clean _. knows_now clean;
        still = λ clean _. knows_now clean;
        others = λ clean desk is has.
            let before = so_far.others (clean_mid clean) desk is has in
            stay_on desk (state g old.held).now (state g mid.held).now (state g new.held).now before
            ((serves clean).others desk is (before.schema_is ∙ has));
      }

      pub served_more : (more : List Answer) → more ≡ given ++ answer ∷ [] → HasServed old new calls more
      served_more more longer = subst (λ (list : List Answer). HasServed old new calls list) (sym longer) one_more

    -- it ends with a fault
    module _ (why : Fault)
        (left : IsClean g new.held → IsOpen g new.held → LeavesAll g mid.held new.held)
        (was_open : IsClean g new.held → IsOpen g new.held → IsOpen g mid.held)
        (knows : IsClean g new.held → IsOpen g new.held → Knows g new.held (world_at g new.held)) where
      world_kept : IsClean g new.held → IsOpen g new.held → world_at g new.held ≡ world_till start calls (length given)
      world_kept clean still = ap world_in (left clean still) ∙ so_far.world_is (clean_mid clean)

      pub run_to_fault : IsClean g new.held → IsRun g old.held new.held calls given (Some why)
      run_to_fault clean =
          let early = clean_mid clean in
          record {
            answers_are = so_far.answers_are early;
            knew = λ some. so_far.knew early (so_far.is_open some early);
            was_open = λ still. (so_far.knew early (was_open clean still)).is_open;
            later = later;
            is_open = λ _ none. absurd (cc none);
            knows = λ still. subst (λ (w : World). Knows g new.held w) (world_kept clean still) (knows clean still);
            others = λ still desk is has.
                subst (λ (db : Database). KeepsOthers desk (state g old.held).now db) (sym (left clean still)) (so_far.others early desk is has);
          }

      -- of a desk that had failed before
      pub stopped_at_fault : (capacity : ℕ) → (mid.failed ≡ true → (failing why ≡ failing machine.Storage) × (new ≡ mid)) → old.failed ≡ true → IsStopped old new calls capacity given (Some why)
      stopped_at_fault capacity stops had_failed =
          let failed = so_far.failed ∙ had_failed in
          let none = none_given so_far had_failed in
          let stopped = stops failed in
          record {
            unchanged = stopped.1 ∙ so_far.untouched none;
            none = none;
            ends = λ _. ap Some (storage_by why stopped.0) ∙ sym (stopped_first calls low);
          }

    module _ (only_committed : (s : S) (db : Trees) → IsTrue (g.view s).is_open → g.recovers s db → db ≡ (g.view s).committed) (worlds_turn : WorldsInTurn) where
      one_of : IsClean g mid.held → (found : Database) → FoundIn found (world_at g mid.held) ⊎ FoundIn found (world_after (world_at g mid.held) made.0 made.1)
          → FoundIn found (world_till (world_at g old.held) calls (length given)) ⊎ FoundIn found (world_till (world_at g old.held) calls (length given + 1))
      one_of early found (inl before) = inl (subst (λ (w : World). FoundIn found w) (so_far.world_is early) before)
      one_of early found (inr behind) = inr (subst (λ (w : World). FoundIn found w)
          (ap (λ (w : World). world_after w made.0 made.1) (so_far.world_is early) ∙ sym (next_world (world_at g old.held) calls (length given) made low is worlds_turn)) behind)

      pub crash_at_fault : (why : Fault) → IsClean g new.held → Knows g old.held (world_at g old.held) → LeavesLast g old.held new.held calls (length given) (Some why)
      crash_at_fault why clean knew trees left =
          let early = clean_mid clean in
          has_weaker (one_of early) (either g only_committed mid.held new.held made.0 made.1 (so_far.still early knew) clean crash trees left)

  -- ---- all calls were served

  module _ (old now : Keyed S) (calls : List (ℕ × Call)) (given : List Answer) (so_far : HasServed old now calls given) where
    pub run_to_end : IsClean g now.held → IsRun g old.held now.held calls given None
    run_to_end clean = record {
      answers_are = so_far.answers_are clean;
      knew = λ some. so_far.knew clean (so_far.is_open some clean);
      was_open = λ still. (so_far.knew clean still).is_open;
      later = so_far.later;
      is_open = λ some _. so_far.is_open some clean;
      knows = λ still. subst (λ (w : World). Knows g now.held w) (so_far.world_is clean) (so_far.knows clean still);
      others = λ _. so_far.others clean;
    }

    -- an opening after a crash finds the world after the calls
    pub found_at_end : ((s : S) (db : Trees) → IsTrue (g.view s).is_open → g.recovers s db → db ≡ (g.view s).committed) → IsClean g now.held → Knows g old.held (world_at g old.held)
        → (trees : Trees) → (state g now.held).may_leave trees → HasDatabase (λ found. FoundIn found (world_till (world_at g old.held) calls (length given))) trees
    found_at_end only_committed clean knew trees left =
        subst (λ (w : World). HasDatabase (λ found. FoundIn found w) trees) (so_far.world_is clean)
        (known g only_committed now.held (world_at g now.held) (so_far.still clean knew) trees left)

    -- of a desk that had failed before
    pub stopped_to_end : (capacity : ℕ) → length calls ≤ length given → old.failed ≡ true → IsStopped old now calls capacity given None
    stopped_to_end capacity all had_failed =
        let none = none_given so_far had_failed in
        let e : length given ≡ 0 = ap length none in
        record { unchanged = so_far.untouched none; none = none; ends = λ _. sym (stopped_none calls (omega (arith, e, all))) }
