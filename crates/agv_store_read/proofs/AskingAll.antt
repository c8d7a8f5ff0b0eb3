-- Readings of whole tables: one alone, one after the other, and what is told of what was read.
use Rattle.std.proofs.Common.{◌≡◌, ◌⊎◌, ◌∙◌, false, List, Option, Ok, Err, Result, IfErr, IfOk, IsPermutation, Vec, Global, ap, arith, sym}
use Rattle.std.specs.Result.{IsErrAnd}
use Rattle.sqlite_value.specs.Order.{Row}
use Rattle.sqlite_trees.specs.declared.store.Store.{Ghosts}
use Rattle.sqlite.specs.declared.error.Error.{Error}
use Rattle.sqlite.specs.Effect.{Database}
use Rattle.sqlite.specs.Held.{Held, state}
use Rattle.sqlite.specs.State.{HasCleanDisk, IsRolledBack, IsUnchanged, Survives}
use Rattle.agv_world_core.specs.Lawful.{IsLawful}
use Rattle.agv_world_core.specs.Worlds.{World}
use Rattle.agv_store_schema.specs.DeskRows.{Answers}
use Rattle.agv_store_schema.specs.Errors.{IsOfStore, is_of_store}
use Rattle.agv_store_schema.specs.SchemaNumbers.{desk_seats}
use Rattle.agv_store_read.specs.ReadTables.{Reads}
use Rattle.agv_store_read.specs.OpenFault.{open_fault_of}
use Rattle.agv_store_read.specs.TablesRead.{HasCauseOverTables, Shows, TellsAll}
use Rattle.agv_store_read.specs.WorldAnswers.{AnswersQuery}
use Rattle.agv_store_read.specs.declared.open_fault.OpenFault.{OpenFault}
use Rattle.agv_store_read.specs.declared.open_fault.OpenFault.TheVariants as fault
use Rattle.agv_store_schema.proofs.Later.{fault_later, later_by}
use Rattle.agv_store_read.proofs.Asking.{Follows, follows, passes, storage_of, tables_then, tells_error, then}

-- an error says nothing of an answer
pub if_err : {A : Type 0} (f : OpenFault) (r : Result A OpenFault) → IsErrAnd r (λ why. why ≡ f) → (says : A → Type 0) → IfOk r says
if_err f (Ok a) is says = absurd is
if_err f (Err why) is says = tt

shows_err : {S A : Type 0} (g : Ghosts S) (old new : Held S) (f : OpenFault) (r : Result A OpenFault) → IsErrAnd r (λ why. why ≡ f) → (has : List (List Row) → A → Type 0) → Shows g old new r has
shows_err g old new f (Ok a) is has = absurd is
shows_err g old new f (Err why) is has = λ _. tt

-- ---- faults of the store

-- it doesn't end with one
abbrev pub IsNoStorage : {A : Type 0} → Result A OpenFault → Type 0
IsNoStorage result = IfErr result (λ why. ¬ (why ≡ fault.Storage))

-- a reading of rows in memory doesn't
pub reads_no_storage : {A : Type 0} (r : Result A OpenFault) (given : Option A) → Reads r given → IsNoStorage r
reads_no_storage (Ok a) given read = tt
reads_no_storage (Err fault.Memory) given read = λ is. cc is
reads_no_storage (Err fault.Storage) given read = absurd read
reads_no_storage (Err fault.Damaged) given read = λ is. cc is

-- nor does what passes on an error that is none
pub passes_no_storage : {A : Type 0} (f : OpenFault) (r : Result A OpenFault) → IsErrAnd r (λ why. why ≡ f) → ¬ (f ≡ fault.Storage) → IsNoStorage r
passes_no_storage f (Ok a) is none = tt
passes_no_storage f (Err why) is none = λ stored. none (sym is ∙ stored)

module _ {S A : Type 0} (g : Ghosts S) (old new : Held S) where
  caused_by_none : (r : Result A OpenFault) → IsNoStorage r → HasCleanDisk (state g new) → IfErr r (λ why. why ≡ fault.Storage → HasCauseOverTables g old new)
  caused_by_none (Ok a) none = λ _. tt
  caused_by_none (Err why) none = λ clean stored. absurd (none stored)

  caused_as : (f : OpenFault) (r : Result A OpenFault) → IsErrAnd r (λ why. why ≡ f) → (HasCleanDisk (state g new) → f ≡ fault.Storage → HasCauseOverTables g old new)
      → HasCleanDisk (state g new) → IfErr r (λ why. why ≡ fault.Storage → HasCauseOverTables g old new)
  caused_as f (Ok a) is caused = absurd is
  caused_as f (Err why) is caused = λ clean stored. caused clean (sym is ∙ stored)

-- ---- readings

module _ {S : Type 0} (g : Ghosts S) (old : Held S) where
  -- rows that are shown
  pub all_rows : (new : Held S) (asked : List (List Row) → List Row) (rows : Vec Row Global) (says : World → Vec Row Global → Type 0)
      → (HasCleanDisk (state g new) → Answers asked (state g old) rows.items) → AnswersQuery g old new (Ok rows) says
      → TellsAll g old new (Ok rows) says (λ lists rows. IsPermutation (asked lists) rows.items)
  all_rows new asked rows says shown told = record { tells = told; exact = shown; caused = λ _. tt }

  -- an error of the database
  pub all_error : {A : Type 0} (new : Held S) (e : Error) (says : World → A → Type 0) (has : List (List Row) → A → Type 0) (r : Result A OpenFault) → IsErrAnd r (λ why. why ≡ open_fault_of e)
      → (HasCleanDisk (state g new) → IsUnchanged (state g old) (state g new) ⊎ IsRolledBack (state g old) (state g new)) → (HasCleanDisk (state g new) → IsOfStore e → HasCauseOverTables g old new)
      → (old.in_transaction ≡ false → new.in_transaction ≡ false) → Survives (state g old) (state g new) (λ _. ⊥) → TellsAll g old new r says has
  all_error new e says has r is failed why idle saved = record {
    tells = tells_error g old new says r e is failed why idle saved;
    exact = shows_err g old new (open_fault_of e) r is has;
    caused = caused_as g old new (open_fault_of e) r is (λ clean stored. why clean (storage_of (is_of_store e) stored));
  }

  -- an error is passed on
  pub all_passes : {A B : Type 0} (new : Held S) (f : OpenFault) (says : World → A → Type 0) (has : List (List Row) → A → Type 0) (means : World → B → Type 0) (holds : List (List Row) → B → Type 0)
      (r : Result B OpenFault) → IsErrAnd r (λ why. why ≡ f) → TellsAll g old new (Err f) says has → TellsAll g old new r means holds
  all_passes new f says has means holds r is asked = record {
    tells = passes g old new f says means r is asked.tells;
    exact = shows_err g old new f r is holds;
    caused = caused_as g old new f r is asked.caused;
  }

  shows_then : {A B : Type 0} (new : Held S) (a : A) (has : List (List Row) → A → Type 0) (holds : List (List Row) → B → Type 0) (r : Result B OpenFault)
      → ((lists : List (List Row)) → has lists a → IfOk r (holds lists)) → Shows g old new (Ok a) has → Shows g old new r holds
  shows_then new a has holds (Ok b) so asked = λ clean desk is lists held. so lists (asked clean desk is lists held)
  shows_then new a has holds (Err f) so asked = λ _. tt

  -- what the rows tell
  pub all_follows : {A B : Type 0} (new : Held S) (a : A) (says : World → A → Type 0) (has : List (List Row) → A → Type 0) (means : World → B → Type 0) (holds : List (List Row) → B → Type 0) (r : Result B OpenFault) → IsNoStorage r
      → ((world : World) → IsLawful desk_seats world → says world a → Follows r (means world)) → ((lists : List (List Row)) → has lists a → IfOk r (holds lists)) → TellsAll g old new (Ok a) says has → TellsAll g old new r means holds
  all_follows new a says has means holds r none so shows asked = record {
    tells = follows g old new a says means r so asked.tells;
    exact = shows_then new a has holds r shows asked.exact;
    caused = caused_by_none g old new r none;
  }

  -- a reading after another
  module _ {A B : Type 0} (mid new : Held S) (a : A) (says : World → A → Type 0) (has : List (List Row) → A → Type 0) (first : TellsAll g old mid (Ok a) says has) where
    later : (r : Result B OpenFault) (means : World → B → Type 0) (holds joined : List (List Row) → B → Type 0) → ((lists : List (List Row)) → has lists a → (b : B) → holds lists b → joined lists b)
        → AnswersQuery g mid new r means → Shows g mid new r holds → Shows g old new r joined
    later (Ok b) means holds joined so told next = λ clean desk is lists held.
        let early : HasCleanDisk (state g mid) = omega (arith, told.survives.clean) in
        let moved = tables_then desk (state g old) (state g mid) lists (first.tells.kept early) held in
        so lists (first.exact early desk is lists held) b (next clean desk is lists moved)
    later (Err f) means holds joined so told next = λ _. tt

    caused_then : (r : Result B OpenFault) (means : World → B → Type 0) → AnswersQuery g mid new r means → (HasCleanDisk (state g new) → IfErr r (λ why. why ≡ fault.Storage → HasCauseOverTables g mid new))
        → HasCleanDisk (state g new) → IfErr r (λ why. why ≡ fault.Storage → HasCauseOverTables g old new)
    caused_then (Ok b) means told caused = λ _. tt
    caused_then (Err f) means told caused = λ clean stored desk is stands.
        let early : HasCleanDisk (state g mid) = omega (arith, told.survives.clean) in
        let kept : IsUnchanged (state g old) (state g mid) = first.tells.kept early in
        fault_later g old mid new (later_by g old mid first.tells.survives) (later_by g mid new told.survives) clean
        (caused clean stored desk is (ap (λ (db : Database). db.schema) kept.0.now_is ∙ stands))

    pub all_then : (r : Result B OpenFault) (means : World → B → Type 0) (holds : List (List Row) → B → Type 0) → TellsAll g mid new r means holds
        → TellsAll g old new r (λ world b. says world a × means world b) (λ lists b. has lists a × holds lists b)
    all_then r means holds next = record {
      tells = then g old mid new a says first.tells r means (λ world b. says world a × means world b) (λ world lawful one b two. (one, two)) next.tells;
      exact = later r means holds (λ lists b. has lists a × holds lists b) (λ lists one b two. (one, two)) next.tells next.exact;
      caused = caused_then r means next.tells next.caused;
    }

module _ {S A B C : Type 0} (g : Ghosts S) (old mid new : Held S) (a : A) (says : World → A → Type 0) (has : List (List Row) → A → Type 0) (first : TellsAll g old mid (Ok a) says has) where
  -- the error of the later reading is passed on
  pub all_then_passes : (f : OpenFault) (means : World → B → Type 0) (holds : List (List Row) → B → Type 0) (joined : World → C → Type 0) (whole : List (List Row) → C → Type 0) (r : Result C OpenFault)
      → IsErrAnd r (λ why. why ≡ f) → TellsAll g mid new (Err f) means holds → TellsAll g old new r joined whole
  all_then_passes f means holds joined whole r is next = all_passes g old new f _ _ joined whole r is (all_then g old mid new a says has first (Err f) means holds next)

  -- what both tell
  pub all_then_follows : (b : B) (means : World → B → Type 0) (holds : List (List Row) → B → Type 0) (joined : World → C → Type 0) (whole : List (List Row) → C → Type 0) (r : Result C OpenFault) → IsNoStorage r
      → ((world : World) → IsLawful desk_seats world → says world a → means world b → Follows r (joined world)) → ((lists : List (List Row)) → has lists a → holds lists b → IfOk r (whole lists))
      → TellsAll g mid new (Ok b) means holds → TellsAll g old new r joined whole
  all_then_follows b means holds joined whole r none so shows next =
      all_follows g old new b _ _ joined whole r none (λ world lawful both. so world lawful both.0 both.1) (λ lists both. shows lists both.0 both.1) (all_then g old mid new a says has first (Ok b) means holds next)
