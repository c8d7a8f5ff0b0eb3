-- What a question leaves of a connection to the desk's tables: one lemma for all of them.
use Rattle.std.proofs.Common.{◌≡◌, ◌⊎◌, Bool, true, false, Ok, Err, Result, IfOk, IsErrAnd, OnOk, OnErr, inl, inr, refl, sym, ap, subst, ◌∙◌}
use Rattle.sqlite_trees.specs.declared.store.Store.{Ghosts}
use Rattle.sqlite.specs.Effect.{Database, IsDatabase}
use Rattle.sqlite.specs.Held.{Held, state}
use Rattle.sqlite.specs.State.{IsRolledBack, IsUnchanged}
use Rattle.sqlite.proofs.StateLemmas.{survives_then}
use Rattle.agv_world_core.specs.Asks.{Answers, Asks, Faulted, IsFaulted, Kept, Still, failed_after, failed_by}
use Rattle.agv_world_core.specs.Worlds.{World}
use Rattle.agv_world_core.specs.declared.fault.Fault.{Fault}
use Rattle.agv_world_core.specs.declared.fault.Fault.TheVariants as machine
use Rattle.agv_world_core.proofs.lists.Asking.{answers, fault_after, faults, retold, stays, still_here}
use Rattle.agv_store_read.specs.WorldAnswers.{AgreesWith, HasWorld, AnswersQuery}
use Rattle.agv_store_read_tables.specs.WorldIn.{world_in}
use Rattle.agv_store_schema.specs.DeskRows.{Placing}
use Rattle.agv_store_schema.specs.Connections.{IsClean, IsOpen}
use Rattle.agv_store_read.specs.declared.open_fault.OpenFault.{OpenFault}
use Rattle.agv_store_read.specs.declared.open_fault.OpenFault.TheVariants as fault
use Rattle.agv_store_schema.proofs.Later.{later_by}
use Rattle.agv_store_known.specs.Known.{IsKnownIn}
use Rattle.agv_store_known.specs.declared.known.Known.{Known}
use Rattle.agv_store_floor.specs.Flags.{doubted_by, noted}
use Rattle.agv_store_floor.specs.Floors.{IsAsked, IsConsistent, Keyed, Knows, facts_of, world_at}
use Rattle.agv_store_floor.proofs.Kept.{agrees_with}

-- a fault that was passed on
pub err_of : {B : Type 0} (q : Result B Fault) (why : Fault) → IsErrAnd q (λ made. made ≡ why) → q ≡ Err why
err_of (Ok b) why is = absurd is
err_of (Err made) why is = ap Err is

module _ {S : Type 0} (g : Ghosts S) where
  -- ---- moments between which nothing was written

  pub clean_before : (old new : Held S) → IsAsked g old new → IsClean g new → IsClean g old
  clean_before old new asked = (later_by g old new asked.survives).clean

  pub asked_then : (a b c : Held S) → IsAsked g a b → IsAsked g b c → IsAsked g a c
  asked_then a b c one two =
      let clean_b = clean_before b c two in
      record {
        survives = survives_then (state g a) (state g b) (state g c) _ _ _ (λ _ _ never. never) (λ _ _ never. never) one.survives two.survives;
        was_open = λ clean still. one.was_open (clean_b clean) (two.was_open clean still);
        unchanged = λ clean still settled.
            let still_b = two.was_open clean still in
            let now = one.unchanged (clean_b clean) still_b settled in
            two.unchanged clean still (one.committed (clean_b clean) still_b ∙ settled ∙ sym now) ∙ now;
        committed = λ clean still. two.committed clean still ∙ one.committed (clean_b clean) (two.was_open clean still);
        idle = λ idle. two.idle (one.idle idle);
      }

  -- what is known stays known
  pub knows_still : (old new : Held S) → IsAsked g old new → IsClean g new → IsOpen g new → (world : World) → Knows g old world → Knows g new world
  knows_still old new asked clean still world was =
      let now = asked.unchanged clean still was.settled in
      record {
        is_open = still;
        idle = asked.idle was.idle;
        settled = asked.committed clean still ∙ was.settled ∙ sym now;
        listed = subst IsDatabase (sym now) was.listed;
        at = was.at;
        has = subst (λ (db : Database). HasWorld was.at db world) (sym now) was.has;
      }

  -- ---- a question

  unchanged_or_undone : {A : Type 0} (old new : Held S) (r : Result A OpenFault)
      → (IsClean g new → OnOk r (IsUnchanged (state g old) (state g new))) → (IsClean g new → OnErr r (IsUnchanged (state g old) (state g new) ⊎ IsRolledBack (state g old) (state g new)))
      → IsClean g new → IsUnchanged (state g old) (state g new) ⊎ IsRolledBack (state g old) (state g new)
  unchanged_or_undone old new (Ok answer) kept failed clean = inl (kept clean)
  unchanged_or_undone old new (Err why) kept failed clean = failed clean

  open_by : (old new : Held S) → IsUnchanged (state g old) (state g new) ⊎ IsRolledBack (state g old) (state g new) → IsOpen g new → IsOpen g old
  open_by old new (inl same) still = same.0.was_open
  open_by old new (inr back) still = back.was_open still

  now_by : (old new : Held S) → IsUnchanged (state g old) (state g new) ⊎ IsRolledBack (state g old) (state g new) → IsOpen g new
      → (state g old).committed ≡ (state g old).now → (state g new).now ≡ (state g old).now
  now_by old new (inl same) still settled = same.0.now_is
  now_by old new (inr back) still settled = (back.undone still).0 ∙ settled

  committed_by : (old new : Held S) → IsUnchanged (state g old) (state g new) ⊎ IsRolledBack (state g old) (state g new) → IsOpen g new → (state g new).committed ≡ (state g old).committed
  committed_by old new (inl same) still = same.0.committed_is
  committed_by old new (inr back) still = (back.undone still).1

  pub asked_by : {A : Type 0} (old new : Held S) (r : Result A OpenFault) (says : World → A → Type 0) → AnswersQuery g old new r says → IsAsked g old new
  asked_by old new r says tells =
      let either = unchanged_or_undone old new r tells.kept tells.failed in
      record {
        survives = tells.survives;
        was_open = λ clean still. open_by old new (either clean) still;
        unchanged = λ clean still settled. now_by old new (either clean) still settled;
        committed = λ clean still. committed_by old new (either clean) still;
        idle = tells.idle;
      }

  -- ---- the invariant

  module _ (old new : Held S) (known : Known) (failed in_doubt : Bool) (asked : IsAsked g old new) (is : IsConsistent g old known failed in_doubt) where
    pub knew : IsClean g new → IsOpen g new → Knows g old (world_at g old)
    knew clean still = is.knows (clean_before old new asked clean) (asked.was_open clean still)

    pub world_same : IsClean g new → IsOpen g new → world_at g new ≡ world_at g old
    world_same clean still = ap world_in (asked.unchanged clean still (knew clean still).settled)

    knows_new : IsClean g new → IsOpen g new → Knows g new (world_at g new)
    knows_new clean still = subst (λ world. Knows g new world) (sym (world_same clean still)) (knows_still old new asked clean still (world_at g old) (knew clean still))

    pub consistent_by : (failed_now in_doubt_now : Bool) → (IsClean g new → failed_now ≡ false → in_doubt_now ≡ false → IsOpen g new) → IsConsistent g new known failed_now in_doubt_now
    consistent_by failed_now in_doubt_now opens = record {
      idle = asked.idle is.idle;
      opens = opens;
      knows = knows_new;
      is_known = λ clean still. subst (IsKnownIn known) (sym (world_same clean still)) (is.is_known (clean_before old new asked clean) (asked.was_open clean still));
    }

  -- what is known is true of the world, to who sees the floor as its value
  pub known_seen : (held : Held S) (known : Known) (failed in_doubt : Bool) → IsConsistent g held known failed in_doubt → (seen : Keyed S) → record { held = held; failed = failed } ≡ seen
      → IsClean g seen.held → IsOpen g seen.held → IsKnownIn known (world_at g seen.held)
  known_seen held known failed in_doubt is seen view_is = subst (λ (desk : Keyed S). IsClean g desk.held → IsOpen g desk.held → IsKnownIn known (world_at g desk.held)) view_is is.is_known

  -- so more can be known, or less
  pub known_so : (held : Held S) (known more : Known) (failed in_doubt : Bool) → IsConsistent g held known failed in_doubt
      → (IsClean g held → IsOpen g held → IsKnownIn known (world_at g held) → IsKnownIn more (world_at g held)) → IsConsistent g held more failed in_doubt
  known_so held known more failed in_doubt is so = record { idle = is.idle; opens = is.opens; knows = is.knows; is_known = λ clean still. so clean still (is.is_known clean still) }

  -- a question that raised neither flag was answered by an open store
  opens_by : {A : Type 0} (old new : Held S) (r : Result A OpenFault) → (IsClean g new → OnOk r (IsOpen g old × IsOpen g new)) → (failed in_doubt : Bool)
      → IsClean g new → failed_by (noted r) failed ≡ false → doubted_by (noted r) in_doubt ≡ false → IsOpen g new
  opens_by old new (Ok answer) answering failed in_doubt clean not_failed no_doubt = (answering clean).1
  opens_by old new (Err fault.Memory) answering failed in_doubt clean not_failed no_doubt = absurd (cc no_doubt)
  opens_by old new (Err fault.Storage) answering failed in_doubt clean not_failed no_doubt = absurd (cc not_failed)
  opens_by old new (Err fault.Damaged) answering failed in_doubt clean not_failed no_doubt = absurd (cc not_failed)

  open_if_ok : {A : Type 0} (old new : Held S) (r : Result A OpenFault) → (IsClean g new → OnOk r (IsOpen g old × IsOpen g new)) → (a : A) → noted r ≡ Ok a → IsClean g new → IsOpen g new
  open_if_ok old new (Ok answer) answering a is clean = (answering clean).1
  open_if_ok old new (Err fault.Memory) answering a is clean = absurd (cc is)
  open_if_ok old new (Err fault.Storage) answering a is clean = absurd (cc is)
  open_if_ok old new (Err fault.Damaged) answering a is clean = absurd (cc is)

  -- ---- a question to a floor

  -- the floor's connection, what is known beside it and the flags before the question, and the connection after it
  module _ (old new : Held S) (known : Known) (failed in_doubt : Bool) (is : IsConsistent g old known failed in_doubt)
      {A : Type 0} (r : Result A OpenFault) (says : World → A → Type 0) (tells : AnswersQuery g old new r says) where
    asked : IsAsked g old new
    asked = asked_by old new r says tells

    pub asked_consistent : (failed_now in_doubt_now : Bool) → failed_now ≡ failed_by (noted r) failed → in_doubt_now ≡ doubted_by (noted r) in_doubt → IsConsistent g new known failed_now in_doubt_now
    asked_consistent failed_now in_doubt_now failed_is doubt_is = consistent_by old new known failed in_doubt asked is failed_now in_doubt_now
        (λ clean not_failed no_doubt. opens_by old new r tells.answering failed in_doubt clean (sym failed_is ∙ not_failed) (sym doubt_is ∙ no_doubt))

    -- an answer leaves no doubt
    pub asked_settled : (failed_now : Bool) (a : A) → noted r ≡ Ok a → IsConsistent g new known failed_now false
    asked_settled failed_now a ok = consistent_by old new known failed in_doubt asked is failed_now false (λ clean _ _. open_if_ok old new r tells.answering a ok clean)

    pub asked_knows : (a : A) → noted r ≡ Ok a → IsClean g new → Knows g new (world_at g new)
    asked_knows a ok clean = knows_new old new known failed in_doubt asked is clean (open_if_ok old new r tells.answering a ok clean)

    module _ (failed_now : Bool) where
      abbrev before : Keyed S
      before = record { held = old; failed = failed }

      abbrev now : Keyed S
      now = record { held = new; failed = failed_now }

      faulted : (why : Fault) → failed_now ≡ failed_after why failed → Faulted (facts_of g) before now why
      faulted why raised = record {
        later = λ first later. asked_then first.held old new later asked;
        was_clean = clean_before old new asked;
        was_open = asked.was_open;
        world = world_same old new known failed in_doubt asked is;
        failed = raised;
        seats = refl;
      }

      still : failed_now ≡ failed → (IsClean g new → IsOpen g new) → Still (facts_of g) before now
      still same opens = record {
        later = λ first later. asked_then first.held old new later asked;
        was_clean = clean_before old new asked;
        was_open = asked.was_open;
        world = λ clean. world_same old new known failed in_doubt asked is clean (opens clean);
        failed = same;
        seats = refl;
      }

      told_at : (a : A) → (IsClean g new → IsOpen g old × IsOpen g new) → (IsClean g new → (at : Placing) (world : World) → HasWorld at (state g old).now world → says world a) → IsClean g new → says (world_at g old) a
      told_at a answering told clean =
          let was = is.knows (clean_before old new asked clean) (answering clean).0 in
          told clean was.at (world_at g old) was.has

      asks : (q : Result A OpenFault) → (IsClean g new → OnOk q (IsOpen g old × IsOpen g new)) → (IsClean g new → IfOk q (λ answer. (at : Placing) (world : World) → HasWorld at (state g old).now world → says world answer))
          → failed_now ≡ failed_by (noted q) failed → Asks (facts_of g) before now (noted q) says
      asks (Ok a) answering told raised = answers (still raised (λ clean. (answering clean).1)) (told_at a answering told)
      asks (Err fault.Memory) answering told raised = faults machine.Memory (faulted machine.Memory raised)
      asks (Err fault.Storage) answering told raised = faults machine.Storage (faulted machine.Storage raised)
      asks (Err fault.Damaged) answering told raised = faults machine.Storage (faulted machine.Storage raised)

      -- what the floor answers, to who sees it as its value
      pub asked_asks : (seen : Keyed S) → before ≡ seen → (q : Result A Fault) → q ≡ noted r → failed_now ≡ failed_by (noted r) failed → Asks (facts_of g) seen now q says
      asked_asks seen view_is q noted_is raised =
          subst (λ (k : Keyed S). Asks (facts_of g) k now q says) view_is
          (subst (λ (q : Result A Fault). Asks (facts_of g) before now q says) (sym noted_is) (asks r tells.answering tells.told raised))

      -- so it is where the floor answers nothing but that there was an answer
      pub asked_done : (seen : Keyed S) → before ≡ seen → (a : A) → noted r ≡ Ok a → failed_now ≡ failed_by (noted r) failed → Answers (facts_of g) seen now (Unit {0})
      asked_done seen view_is a ok raised =
          retold (λ _. tt) (subst (λ (k : Keyed S). Answers (facts_of g) k now (says (world_at g k.held) a)) view_is
          (subst (λ (q : Result A Fault). Asks (facts_of g) before now q says) ok (asks r tells.answering tells.told raised)))

      pub asked_fault : {B : Type 0} (seen : Keyed S) → before ≡ seen → (why : Fault) → noted r ≡ Err why → failed_now ≡ failed_by (noted r) failed
          → (q : Result B Fault) → q ≡ Err why → (other : World → B → Type 0) → Asks (facts_of g) seen now q other
      asked_fault {B} seen view_is why is_err raised q q_is other =
          let at_before : (start : Keyed S) → Kept (facts_of g) start before → IsFaulted (facts_of g) start now why =
          subst (λ (q : Result A Fault). Asks (facts_of g) before now q says) is_err (asks r tells.answering tells.told raised) in
          subst (λ (q : Result B Fault). Asks (facts_of g) seen now q other) (sym q_is)
          (subst (λ (k : Keyed S). (start : Keyed S) → Kept (facts_of g) start k → IsFaulted (facts_of g) start now why) view_is at_before)

  -- what is told where something holds of the world is told of a floor of whose world it holds
  module _ (old new : Held S) {A : Type 0} (failed failed_now : Bool) (Given : World → Type 0) (holds : IsClean g old → IsOpen g old → Given (world_at g old)) (says : World → A → Type 0) where
    told_so : (q : Result A OpenFault) → (IsClean g new → OnOk q (IsOpen g old × IsOpen g new))
        → Asks (facts_of g) (record { held = old; failed = failed }) (record { held = new; failed = failed_now }) (noted q) (λ world a. Given world → says world a)
        → Asks (facts_of g) (record { held = old; failed = failed }) (record { held = new; failed = failed_now }) (noted q) says
    told_so (Ok a) answering asked = record {
      told = λ clean. asked.told clean (holds (asked.was_clean clean) (answering clean).0);
      was_clean = asked.was_clean;
      world = asked.world;
      kept = asked.kept;
      spent = asked.spent;
    }
    told_so (Err fault.Memory) answering asked = asked
    told_so (Err fault.Storage) answering asked = asked
    told_so (Err fault.Damaged) answering asked = asked

  module _ (old new : Held S) (known : Known) (failed in_doubt : Bool) (is : IsConsistent g old known failed in_doubt)
      {A : Type 0} (r : Result A OpenFault) (says : World → A → Type 0) where
    -- so it is where a kept layout is the world's
    pub asked_agreed : AnswersQuery g old new r (λ world a. AgreesWith known.layout world → says world a) → (failed_now : Bool) → (seen : Keyed S) → record { held = old; failed = failed } ≡ seen
        → (q : Result A Fault) → q ≡ noted r → failed_now ≡ failed_by (noted r) failed → Asks (facts_of g) seen (record { held = new; failed = failed_now }) q says
    asked_agreed tells failed_now seen view_is q noted_is raised =
        subst (λ (k : Keyed S). Asks (facts_of g) k (record { held = new; failed = failed_now }) q says) view_is
        (subst (λ (q : Result A Fault). Asks (facts_of g) (record { held = old; failed = failed }) (record { held = new; failed = failed_now }) q says) (sym noted_is)
        (told_so old new failed failed_now (AgreesWith known.layout) (λ clean still. agrees_with known.layout (world_at g old) (is.is_known clean still).agrees) says r tells.answering
        (asked_asks old new known failed in_doubt is r _ tells failed_now (record { held = old; failed = failed }) refl (noted r) refl raised)))

  -- what is known of an open floor is answered once it is known to be open
  pub answered_open : (old new : Keyed S) {says : Type 0} → Answers (facts_of g) old new (Unit {0}) → (IsClean g new.held → Knows g new.held (world_at g new.held)) → (IsClean g old.held → IsOpen g old.held → says) → Answers (facts_of g) old new says
  answered_open old new asked knows so = record {
    told = λ clean. so (asked.was_clean clean) ((stays asked).was_open clean (knows clean).is_open);
    was_clean = asked.was_clean;
    world = asked.world;
    kept = asked.kept;
    spent = asked.spent;
  }

  -- a floor that has failed is not asked
  pub not_asked : (seen : Keyed S) → seen.failed ≡ true → (start : Keyed S) → Kept (facts_of g) start seen → IsFaulted (facts_of g) start seen machine.Storage
  not_asked seen has = faults machine.Storage (fault_after machine.Storage has still_here)
