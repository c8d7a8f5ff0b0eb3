-- All rows of a table are taken one at a time: what is told of those taken so far, and of how the taking ends.
use Rattle.std.proofs.Common.{◌≡◌, ◌∙◌, ◌+◌, ◌-◌, ◌^◌, ◌<◌, cond, ℕ, false, List, [], ◌∷◌, ◌++◌, append_assoc, append-nil, Ok, Err, Result, Option, Some, None, IsSome, Ordering, IsPermutation, arith, inl, inr, refl, sym, ap, subst}
use Rattle.std.specs.Cmp.{IsTotalOrder}
use Rattle.std.specs.FinMap.{FinMap, empty, get, insert, len, len-insert}
use Rattle.std.specs.Option.{is_some}
use Rattle.std.specs.Result.{IsErrAnd}
use Rattle.sqlite_value.specs.Order.{Row}
use Rattle.sqlite_trees.specs.declared.store.Store.{Ghosts}
use Rattle.sqlite_resolve.specs.Lowering.{Checked}
use Rattle.sqlite_resolve.specs.declared.compiled.Compiled.{Compiled}
use Rattle.sqlite.specs.declared.error.Error.{Error}
use Rattle.sqlite.specs.Effect.{Database}
use Rattle.sqlite.specs.Given.{Advances, FailsToAdvance, HasBegun, HasGiven, Returns}
use Rattle.sqlite.specs.Held.{Held, state}
use Rattle.sqlite.specs.Listing.{understood}
use Rattle.sqlite.specs.State.{CommitsShowing, FailsToQuery, HasCleanDisk, IsStatement, IsUnchanged, State, Survives}
use Rattle.sqlite.proofs.Callers.{EndsIn, begins_shown, command_of, given_begin}
use Rattle.sqlite.proofs.StateLemmas.{survives_then}
use Rattle.agv_world_core.specs.Lawful.{IsLawful}
use Rattle.agv_world_core.specs.Worlds.{World}
use Rattle.agv_store_schema.specs.DeskRows.{Answers, IsDesk, Placing}
use Rattle.agv_store_schema.specs.SchemaNumbers.{desk_seats}
use Rattle.agv_store_sql.specs.RowQueries.{all_rows_of, all_rows_text}
use Rattle.agv_store_read.specs.OpenFault.{open_fault_of}
use Rattle.agv_store_read.specs.WorldAnswers.{HasNoWorld, AnswersQuery}
use Rattle.agv_store_read.specs.ReadTables.{Reads, if_free, read_rows}
use Rattle.agv_store_rows.specs.ValueEncodings.{if_some}
use Rattle.agv_store_rows.specs.Rows.{rows_of}
use Rattle.agv_store_read.specs.TablesRead.{TellsAll}
use Rattle.agv_store_read.specs.declared.open_fault.OpenFault.{OpenFault}
use Rattle.agv_store_read.specs.declared.open_fault.OpenFault.TheVariants as fault
use Rattle.agv_store_schema.specs.declared.table_name.TableName.{TableName}
use Rattle.agv_store_schema.proofs.DeskPlaces.{is_in, one_stands}
use Rattle.agv_store_schema.proofs.Later.{fault_later, later_by}
use Rattle.agv_store_sql.proofs.sql.ReadFailing.{all_caused}
use Rattle.agv_store_schema.proofs.Running.{query_fails}
use Rattle.agv_store_sql.proofs.sql.Selecting.{IsSilent, all_selects, select_survives, silent_understood}
use Rattle.agv_store_schema.proofs.StatesThen.{failed_then, unchanged_then}
use Rattle.agv_store_sql.proofs.DeskStatements.{all_given}
use Rattle.agv_store_sql.proofs.QueryMeanings.{all_rows_asked}
use Rattle.agv_store_read.proofs.Asking.{tables_then}
use Rattle.agv_store_read.proofs.AskingAll.{all_error, all_passes}

-- a statement with no RETURNING shows no rows of a write
never_returns : (c : Checked Compiled) → IsSilent c → ¬ Returns c
never_returns (Ok c) none some = let wrong = subst IsSome none some in absurd (cc wrong)
never_returns (Err e) none some = some

-- a connection that was open and is, is as it is
same_again : (a b : State) → IsUnchanged a b → IsUnchanged b b
same_again a b same = (record { was_open = same.0.is_open; is_open = same.0.is_open; now_is = refl; committed_is = refl; mode = refl }, record { changes = refl; last_rowid = refl }, refl)

-- the text reads a table of the desk, and no query within it
ends : (name : TableName) (s : State) (desk : Placing) → IsDesk desk → s.now.schema ≡ desk.schema → (c : Compiled) (db : Database) (params : Row) → IsStatement s (all_rows_text name) [] c → EndsIn c.command db params
ends name s desk is has c db params it =
    let means = all_rows_asked name (desk.keys name) desk.schema (is.stands name).at (desk.tree name) (is_in desk is name) in
    subst (λ k. EndsIn k db params) (sym (ap command_of (sym it.is ∙ ap (λ schema. understood schema (all_rows_text name)) has) ∙ means.is)) tt

module _ (name : TableName) where
  abbrev says : World → List Row → Type 0
  says world rows = IsPermutation (all_rows_of name (rows_of world)) rows

  abbrev shown : List (List Row) → List Row → Type 0
  shown lists rows = IsPermutation (all_rows_of name lists) rows

-- a row that is taken tells one entry more
one_longer : {K X : Type 0} {R : K → K → Ordering} → IsTotalOrder R → (told : Row → Option (K × X)) (table next : FinMap R X) (row : Row) → read_rows told table (row ∷ []) ≡ Some next → len next ≡ len table + 1
one_longer {K} {X} {R} total told table next row is =
    elim (told row) as (λ (o : Option (K × X)). if_some o (λ entry. if_free (get table entry.0) (Some (insert table entry.0 entry.1))) ≡ Some next → len next ≡ len table + 1) [
      | None ↦ λ found. absurd (cc found)
      | Some entry ↦ λ found. elim (get table entry.0) as (λ (o : Option X). get table entry.0 ≡ o → if_free o (Some (insert table entry.0 entry.1)) ≡ Some next → len next ≡ len table + 1) [
        | Some x ↦ λ _ taken. absurd (cc taken)
        | None ↦ λ free taken.
            let same : insert table entry.0 entry.1 ≡ next = cc in
            ap len (sym same) ∙ len-insert total table entry.0 entry.1 ∙ ap (λ (o : Option X). cond (is_some o) (len table) (len table + 1)) free
      ] refl found
    ] is

-- no table has so many entries
pub fewer_left : {K X : Type 0} {R : K → K → Ordering} → IsTotalOrder R → (told : Row → Option (K × X)) (table next : FinMap R X) (row : Row) → len table < 2 ^ 64 → ((rest : List Row) → read_rows told table (row ∷ rest) ≡ read_rows told next rest)
    → (2 ^ 64 - len next) < (2 ^ 64 - len table)
fewer_left total told table next row low taken = omega (arith, low, one_longer total told table next row (taken []))

-- how a reading ends at a moment, told of the same one
pub told_at : {S A : Type 0} (g : Ghosts S) (old new last : Held S) {r : Result A OpenFault} {means : World → A → Type 0} {holds : List (List Row) → A → Type 0} → last ≡ new → TellsAll g old new r means holds → TellsAll g old last r means holds
told_at g old new last {r} {means} {holds} same told = subst (λ (end : Held _). TellsAll g old end r means holds) (sym same) told

-- ---- the query

module _ {S : Type 0} (g : Ghosts S) (name : TableName) (old new : Held S) (sql : List ℕ) (text : sql ≡ all_rows_text name) where
  saved : Survives (state g old) (state g new) (CommitsShowing sql [] (state g old)) → Survives (state g old) (state g new) (λ _. ⊥)
  saved survives = select_survives [] (state g old) (state g new) sql (all_selects name sql text) survives

  begun : HasBegun g sql [] old new → HasGiven g sql [] new [] × IsUnchanged (state g old) (state g new)
  begun (inl begins) = begins
  begun (inr returns) = absurd (never_returns _ (silent_understood old.schema sql (all_selects name sql text)) returns.0)

  pub not_begun : {A : Type 0} (means : World → A → Type 0) (holds : List (List Row) → A → Type 0) (e : Error) (r : Result A OpenFault) → IsErrAnd r (λ why. why ≡ open_fault_of e)
      → (HasCleanDisk (state g new) → FailsToQuery sql [] (state g old) (state g new) e) → (old.in_transaction ≡ false → new.in_transaction ≡ false)
      → Survives (state g old) (state g new) (CommitsShowing sql [] (state g old)) → TellsAll g old new r means holds
  not_begun means holds e r is fails idle survives =
      all_error g old new e means holds r is (λ clean. query_fails sql [] (state g old) (state g new) e (fails clean))
      (λ clean stored desk is has. all_caused [] (state g old) (state g new) (Err e) sql (fails clean) name refl text stored desk (one_stands desk is name) has) idle (saved survives)

-- ---- the rows

module _ {S K X : Type 0} {R : K → K → Ordering} (g : Ghosts S) (name : TableName) (told : Row → Option (K × X)) (old : Held S) where
  -- so many rows were taken between the two moments, and the table has what they tell
  pub record IsTaken (now : Held S) (table : FinMap R X) : Type 0 where
    pub given : List Row
    pub survives : Survives (state g old) (state g now) (λ _. ⊥)
    pub idle : old.in_transaction ≡ false → now.in_transaction ≡ false
    pub gives : HasCleanDisk (state g now) → HasGiven g (all_rows_text name) [] now given
    pub same : HasCleanDisk (state g now) → IsUnchanged (state g old) (state g now)
    pub read : (rest : List Row) → read_rows told (empty {X = X} {R = R}) (given ++ rest) ≡ read_rows told table rest

  -- ---- none yet

  pub taken_none : (new : Held S) (sql : List ℕ) → sql ≡ all_rows_text name → (HasCleanDisk (state g new) → HasBegun g sql [] old new) → (old.in_transaction ≡ false → new.in_transaction ≡ false)
      → Survives (state g old) (state g new) (CommitsShowing sql [] (state g old)) → IsTaken new empty
  taken_none new sql text begins idle survives = record {
    given = [];
    survives = saved g name old new sql text survives;
    idle = idle;
    gives = λ clean. subst (λ t. HasGiven g t [] new []) text (begun g name old new sql text (begins clean)).0;
    same = λ clean. (begun g name old new sql text (begins clean)).1;
    read = λ rest. refl;
  }

  -- ---- one row more, or an end

  module _ (now new : Held S) (table : FinMap R X) (so_far : IsTaken now table) (survives : Survives (state g now) (state g new) (λ _. ⊥)) (idle : now.in_transaction ≡ false → new.in_transaction ≡ false) where
    early : HasCleanDisk (state g new) → HasCleanDisk (state g now)
    early clean = omega (arith, survives.clean)

    saved_all : Survives (state g old) (state g new) (λ _. ⊥)
    saved_all = survives_then (state g old) (state g now) (state g new) _ _ (λ _. ⊥) (λ _ _ none. none) (λ _ _ none. none) so_far.survives survives

    -- an error of the database
    pub taking_failed : {A : Type 0} (means : World → A → Type 0) (holds : List (List Row) → A → Type 0) (e : Error) (r : Result A OpenFault) → IsErrAnd r (λ why. why ≡ open_fault_of e)
        → (HasCleanDisk (state g new) → FailsToAdvance g now new e) → TellsAll g old new r means holds
    taking_failed means holds e r is fails =
        let failed : HasCleanDisk (state g new) → FailsToQuery (all_rows_text name) [] (state g now) (state g new) e = λ clean. fails clean (all_rows_text name) [] so_far.given (so_far.gives (early clean)) in
        all_error g old new e means holds r is
        (λ clean. failed_then (state g old) (state g now) (state g new) (so_far.same (early clean)) (query_fails (all_rows_text name) [] (state g now) (state g new) e (failed clean)))
        (λ clean stored desk stands has.
        fault_later g old now new (later_by g old now so_far.survives) (later_by g now new survives) clean
        (all_caused [] (state g now) (state g new) (Err e) (all_rows_text name) (failed clean) name refl refl stored desk (one_stands desk stands name) (ap (λ (db : Database). db.schema) (so_far.same (early clean)).0.now_is ∙ has)))
        (λ was. idle (so_far.idle was)) saved_all

    module _ (same : HasCleanDisk (state g new) → IsUnchanged (state g now) (state g new)) where
      same_all : HasCleanDisk (state g new) → IsUnchanged (state g old) (state g new)
      same_all clean = unchanged_then (state g old) (state g now) (state g new) (so_far.same (early clean)) (same clean)

      -- there is no further row: those that were taken are all
      pub taken_all : (HasCleanDisk (state g new) → Advances g now new None) → TellsAll g old new (Ok so_far.given) (says name) (shown name)
      taken_all advances =
          let answers : HasCleanDisk (state g new) → Answers (all_rows_of name) (state g old) so_far.given = λ clean desk is lists held.
          all_given name [] (state g now) (state g new) so_far.given (advances clean (all_rows_text name) [] so_far.given (so_far.gives (early clean))) desk is lists
          (tables_then desk (state g old) (state g now) lists (so_far.same (early clean)) held) in
          record {
            tells = record {
              told = λ clean desk world has. answers clean desk has.stands (rows_of world) has.rows;
              kept = same_all;
              answering = λ clean. ((same_all clean).0.was_open, (same_all clean).0.is_open);
              idle = λ was. idle (so_far.idle was);
              damaged = λ _. tt;
              failed = λ _. tt;
              caused = λ _. tt;
              survives = saved_all;
            };
            exact = answers;
            caused = λ _. tt;
          }

      pub read_all : read_rows told (empty {X = X} {R = R}) so_far.given ≡ Some table
      read_all = ap (read_rows told empty) (sym (append-nil so_far.given)) ∙ so_far.read []

      module _ (row : Row) (advances : HasCleanDisk (state g new) → Advances g now new (Some row)) where
        -- it tells one entry more
        pub taken_more : (next : FinMap R X) → ((rest : List Row) → read_rows told table (row ∷ rest) ≡ read_rows told next rest) → IsTaken new next
        taken_more next taken = record {
          given = so_far.given ++ row ∷ [];
          survives = saved_all;
          idle = λ was. idle (so_far.idle was);
          gives = λ clean. advances clean (all_rows_text name) [] so_far.given (so_far.gives (early clean));
          same = same_all;
          read = λ rest. ap (read_rows told empty) (append_assoc so_far.given (row ∷ []) rest) ∙ so_far.read (row ∷ rest) ∙ taken rest;
        }

        -- it can't be taken
        module _ (never : (world : World) → IsLawful desk_seats world → (rows : List Row) → says name world rows → ¬ (read_rows told (empty {X = X} {R = R}) rows ≡ None)) (none : (rest : List Row) → read_rows told table (row ∷ rest) ≡ None) where
          no_world : HasCleanDisk (state g new) → HasNoWorld (state g old).now
          no_world clean desk world has =
              let later = same_all clean in
              let given = so_far.given ++ row ∷ [] in
              let begins = given_begin g (all_rows_text name) [] new given (advances clean (all_rows_text name) [] so_far.given (so_far.gives (early clean))) in
              let held = tables_then desk (state g old) (state g new) (rows_of world) later has.rows in
              let whole = begins_shown (all_rows_text name) [] (state g new) (state g new) given begins (same_again (state g old) (state g new) later)
              (λ c db it source. ends name (state g new) desk has.stands held.schema_is c db _ it) in
              never world has.lawful (given ++ whole.0) (all_given name [] (state g new) (state g new) (given ++ whole.0) whole.1 desk has.stands (rows_of world) held)
              (ap (read_rows told empty) (append_assoc so_far.given (row ∷ []) whole.0) ∙ so_far.read (row ∷ whole.0) ∙ none whole.0)

        pub refused : {A : Type 0} (means : World → A → Type 0) (holds : List (List Row) → A → Type 0)
            → ((world : World) → IsLawful desk_seats world → (rows : List Row) → says name world rows → ¬ (read_rows told (empty {X = X} {R = R}) rows ≡ None))
            → (why : OpenFault) → ((rest : List Row) → Reads (Err why) (read_rows told table (row ∷ rest))) → (r : Result A OpenFault) → IsErrAnd r (λ f. f ≡ why) → TellsAll g old new r means holds
        refused means holds never why reads r is = all_passes g old new why (says name) (shown name) means holds r is (record { tells = ended why reads; exact = λ _. tt; caused = λ clean stored. absurd (not_stored why reads stored) })
          where
            by_row : (why : OpenFault) → ((rest : List Row) → Reads (Err why) (read_rows told table (row ∷ rest))) → HasCleanDisk (state g new) → why ≡ fault.Damaged → HasNoWorld (state g old).now
            by_row fault.Memory reads clean is = absurd (cc is)
            by_row fault.Storage reads clean is = absurd (reads [])
            by_row fault.Damaged reads clean is = no_world never reads clean

            not_stored : (why : OpenFault) → ((rest : List Row) → Reads (Err why) (read_rows told table (row ∷ rest))) → ¬ (why ≡ fault.Storage)
            not_stored fault.Memory reads is = cc is
            not_stored fault.Storage reads is = reads []
            not_stored fault.Damaged reads is = cc is

            ended : (why : OpenFault) → ((rest : List Row) → Reads (Err why) (read_rows told table (row ∷ rest))) → AnswersQuery g old new (Err why) (says name)
            ended why reads = record {
              told = λ _. tt;
              kept = λ _. tt;
              answering = λ _. tt;
              idle = λ was. idle (so_far.idle was);
              damaged = λ clean is. by_row why reads clean is;
              failed = λ clean. inl (same_all clean);
              caused = λ clean stored. absurd (not_stored why reads stored);
              survives = saved_all;
            }
