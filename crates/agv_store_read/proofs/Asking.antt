-- Queries of the tables: one alone, one after the other, and what is told of the answer.
use Rattle.std.proofs.Common.{◌≡◌, ◌⊎◌, Bool, true, false, cond, List, Ok, Err, Result, IsPermutation, Vec, Global, inl, refl, sym, subst, ◌∙◌, arith}
use Rattle.std.specs.Result.{IsErrAnd}
use Rattle.sqlite_value.specs.Order.{Row}
use Rattle.sqlite_trees.specs.declared.store.Store.{Ghosts}
use Rattle.sqlite.specs.declared.error.Error.{Error}
use Rattle.sqlite.specs.Effect.{Database}
use Rattle.sqlite.specs.Held.{Held, state}
use Rattle.sqlite.specs.State.{State, HasCleanDisk, IsUnchanged, IsRolledBack, Survives}
use Rattle.sqlite.proofs.StateLemmas.{survives_then}
use Rattle.agv_world_core.specs.Lawful.{IsLawful}
use Rattle.agv_world_core.specs.Worlds.{World}
use Rattle.agv_store_schema.specs.DeskRows.{Answers, Placing, Holds, IsDesk}
use Rattle.agv_store_schema.specs.Errors.{IsOfStore, is_of_store}
use Rattle.agv_store_schema.specs.Connections.{HasStorageCause}
use Rattle.agv_store_read.specs.OpenFault.{open_fault_of}
use Rattle.agv_store_rows.specs.Rows.{rows_of}
use Rattle.agv_store_schema.specs.SchemaNumbers.{desk_seats}
use Rattle.agv_store_read.specs.WorldAnswers.{HasWorld, AnswersQuery}
use Rattle.agv_store_read.specs.declared.open_fault.OpenFault.{OpenFault}
use Rattle.agv_store_read.specs.declared.open_fault.OpenFault.TheVariants as fault
use Rattle.agv_store_schema.proofs.Later.{later_by, fault_later}
use Rattle.agv_store_schema.proofs.StatesThen.{failed_then, unchanged_then}

-- ---- states

pub tables_then : (desk : Placing) (a b : State) (lists : List (List Row)) → IsUnchanged a b → Holds desk a.now lists → Holds desk b.now lists
tables_then desk a b lists same held = subst (λ (db : Database). Holds desk db lists) (sym same.0.now_is) held

world_then : (desk : Placing) (a b : State) (world : World) → IsUnchanged a b → HasWorld desk a.now world → HasWorld desk b.now world
world_then desk a b world same has = subst (λ (db : Database). HasWorld desk db world) (sym same.0.now_is) has

-- ---- errors

pub storage_of : (b : Bool) → cond b fault.Storage fault.Memory ≡ fault.Storage → b ≡ true
storage_of true is = refl
storage_of false is = absurd (cc is)

pub sound_of : (b : Bool) → ¬ (cond b fault.Storage fault.Memory ≡ fault.Damaged)
sound_of true is = cc is
sound_of false is = cc is

-- ---- one query

module _ {S : Type 0} (g : Ghosts S) (old new : Held S) where
  -- rows that are shown
  pub tells_rows : (asked : List (List Row) → List Row) (rows : Vec Row Global) → (HasCleanDisk (state g new) → Answers asked (state g old) rows.items) → (HasCleanDisk (state g new) → IsUnchanged (state g old) (state g new))
      → (old.in_transaction ≡ false → new.in_transaction ≡ false) → Survives (state g old) (state g new) (λ _. ⊥) → AnswersQuery g old new (Ok rows) (λ world rows. IsPermutation (asked (rows_of world)) rows.items)
  tells_rows asked rows shown same idle saved = record {
    told = λ clean desk world has. shown clean desk has.stands (rows_of world) has.rows;
    kept = same;
    answering = λ clean. ((same clean).0.was_open, (same clean).0.is_open);
    idle = idle;
    damaged = λ _. tt;
    failed = λ _. tt;
    caused = λ _. tt;
    survives = saved;
  }

  -- an error of the database
  pub tells_error : {A : Type 0} (says : World → A → Type 0) (r : Result A OpenFault) (e : Error) → IsErrAnd r (λ why. why ≡ open_fault_of e) → (HasCleanDisk (state g new) → IsUnchanged (state g old) (state g new) ⊎ IsRolledBack (state g old) (state g new))
      → (HasCleanDisk (state g new) → IsOfStore e → (desk : Placing) → IsDesk desk → (state g old).now.schema ≡ desk.schema → HasStorageCause g old new)
      → (old.in_transaction ≡ false → new.in_transaction ≡ false) → Survives (state g old) (state g new) (λ _. ⊥) → AnswersQuery g old new r says
  tells_error says (Ok x) e is failed why idle saved = absurd is
  tells_error says (Err f) e is failed why idle saved = record {
    told = λ _. tt;
    kept = λ _. tt;
    answering = λ _. tt;
    idle = idle;
    damaged = λ _ broken. absurd (sound_of (is_of_store e) (sym is ∙ broken));
    failed = failed;
    caused = λ clean stored desk world has. why clean (storage_of (is_of_store e) (sym is ∙ stored)) desk has.stands has.rows.schema_is;
    survives = saved;
  }

-- ---- what is told of the answer

-- what follows from an answer: another answer, or want of memory
abbrev pub Follows : {B : Type 0} → Result B OpenFault → (B → Type 0) → Type 0
Follows (Ok b) says = says b
Follows (Err fault.Memory) says = Unit {0}
Follows (Err fault.Storage) says = ⊥
Follows (Err fault.Damaged) says = ⊥

module _ {S : Type 0} (g : Ghosts S) (old : Held S) where
  -- an error is passed on
  pub passes : {A B : Type 0} (new : Held S) (f : OpenFault) (says : World → A → Type 0) (means : World → B → Type 0) (r : Result B OpenFault) → IsErrAnd r (λ why. why ≡ f) → AnswersQuery g old new (Err f) says → AnswersQuery g old new r means
  passes new f says means (Ok b) is asked = absurd is
  passes new f says means (Err why) is asked = record {
    told = λ _. tt;
    kept = λ _. tt;
    answering = λ _. tt;
    idle = asked.idle;
    damaged = λ clean broken. asked.damaged clean (sym is ∙ broken);
    failed = asked.failed;
    caused = λ clean stored. asked.caused clean (sym is ∙ stored);
    survives = asked.survives;
  }

  -- what the answer tells
  pub follows : {A B : Type 0} (new : Held S) (a : A) (says : World → A → Type 0) (means : World → B → Type 0) (r : Result B OpenFault)
      → ((world : World) → IsLawful desk_seats world → says world a → Follows r (means world)) → AnswersQuery g old new (Ok a) says → AnswersQuery g old new r means
  follows new a says means (Ok b) so asked = record {
    told = λ clean desk world has. so world has.lawful (asked.told clean desk world has);
    kept = asked.kept;
    answering = asked.answering;
    idle = asked.idle;
    damaged = λ _. tt;
    failed = λ _. tt;
    caused = λ _. tt;
    survives = asked.survives;
  }
  follows new a says means (Err fault.Memory) so asked = record {
    told = λ _. tt;
    kept = λ _. tt;
    answering = λ _. tt;
    idle = asked.idle;
    damaged = λ _ is. absurd (cc is);
    failed = λ clean. inl (asked.kept clean);
    caused = λ _ is. absurd (cc is);
    survives = asked.survives;
  }
  follows new a says means (Err fault.Storage) so asked = record {
    told = λ _. tt;
    kept = λ _. tt;
    answering = λ _. tt;
    idle = asked.idle;
    damaged = λ _ is. absurd (cc is);
    failed = λ clean. inl (asked.kept clean);
    caused = λ clean is desk world has. absurd (so world has.lawful (asked.told clean desk world has));
    survives = asked.survives;
  }
  follows new a says means (Err fault.Damaged) so asked = record {
    told = λ _. tt;
    kept = λ _. tt;
    answering = λ _. tt;
    idle = asked.idle;
    damaged = λ clean _ desk world has. so world has.lawful (asked.told clean desk world has);
    failed = λ clean. inl (asked.kept clean);
    caused = λ clean is desk world has. absurd (so world has.lawful (asked.told clean desk world has));
    survives = asked.survives;
  }

  -- an answer that says one thing says another
  pub tells : {A : Type 0} (new : Held S) (says means : World → A → Type 0) (r : Result A OpenFault)
      → ((world : World) → IsLawful desk_seats world → (a : A) → says world a → means world a) → AnswersQuery g old new r says → AnswersQuery g old new r means
  tells new says means (Ok a) so asked = follows new a says means (Ok a) (λ world lawful. so world lawful a) asked
  tells new says means (Err f) so asked = passes new f says means (Err f) refl asked

  -- a query after another
  module _ {A B : Type 0} (mid new : Held S) (a : A) (says : World → A → Type 0) (first : AnswersQuery g old mid (Ok a) says) where
    module _ (r : Result B OpenFault) (means : World → B → Type 0) (next : AnswersQuery g mid new r means) where
      earlier : HasCleanDisk (state g new) → HasCleanDisk (state g mid)
      earlier clean = omega (arith, next.survives.clean)

      kept : HasCleanDisk (state g new) → IsUnchanged (state g old) (state g mid)
      kept clean = first.kept (earlier clean)

      passed : HasCleanDisk (state g new) → (desk : Placing) (world : World) → HasWorld desk (state g old).now world → HasWorld desk (state g mid).now world
      passed clean desk world has = world_then desk (state g old) (state g mid) world (kept clean) has

      saved : Survives (state g old) (state g new) (λ _. ⊥)
      saved = survives_then (state g old) (state g mid) (state g new) _ _ (λ _. ⊥) (λ _ _ none. none) (λ _ _ none. none) first.survives next.survives

    pub then : (r : Result B OpenFault) (means : World → B → Type 0) (joined : World → B → Type 0) → ((world : World) → IsLawful desk_seats world → says world a → (b : B) → means world b → joined world b) → AnswersQuery g mid new r means → AnswersQuery g old new r joined
    then (Ok b) means joined so next = record {
      told = λ clean desk world has.
          let one = first.told (earlier (Ok b) means next clean) desk world has in
          let two = next.told clean desk world (passed (Ok b) means next clean desk world has) in
          so world has.lawful one b two;
      kept = λ clean. unchanged_then (state g old) (state g mid) (state g new) (kept (Ok b) means next clean) (next.kept clean);
      answering = λ clean. ((first.answering (earlier (Ok b) means next clean)).0, (next.answering clean).1);
      idle = λ was. next.idle (first.idle was);
      damaged = λ _. tt;
      failed = λ _. tt;
      caused = λ _. tt;
      survives = saved (Ok b) means next;
    }
    then (Err f) means joined so next = record {
      told = λ _. tt;
      kept = λ _. tt;
      answering = λ _. tt;
      idle = λ was. next.idle (first.idle was);
      damaged = λ clean is desk world has. next.damaged clean is desk world (passed (Err f) means next clean desk world has);
      failed = λ clean. failed_then (state g old) (state g mid) (state g new) (kept (Err f) means next clean) (next.failed clean);
      caused = λ clean is desk world has.
          fault_later g old mid new (later_by g old mid first.survives) (later_by g mid new next.survives) clean (next.caused clean is desk world (passed (Err f) means next clean desk world has));
      survives = saved (Err f) means next;
    }

module _ {S A B C : Type 0} (g : Ghosts S) (old mid new : Held S) (a : A) (says : World → A → Type 0) (first : AnswersQuery g old mid (Ok a) says) where
  -- the error of the later query is passed on
  pub then_passes : (f : OpenFault) (means : World → B → Type 0) (joined : World → C → Type 0) (r : Result C OpenFault) → IsErrAnd r (λ why. why ≡ f) → AnswersQuery g mid new (Err f) means → AnswersQuery g old new r joined
  then_passes f means joined r is next = then g old mid new a says first r joined joined (λ world lawful one c two. two) (passes g mid new f means joined r is next)

  -- what both answers tell
  pub then_follows : (b : B) (means : World → B → Type 0) (joined : World → C → Type 0) (r : Result C OpenFault) → ((world : World) → IsLawful desk_seats world → says world a → means world b → Follows r (joined world)) → AnswersQuery g mid new (Ok b) means → AnswersQuery g old new r joined
  then_follows b means joined r so next =
      follows g old new b (λ world c. says world a × means world c) joined r (λ world lawful both. so world lawful both.0 both.1)
      (then g old mid new a says first (Ok b) means (λ world c. says world a × means world c) (λ world lawful one c two. (one, two)) next)
