-- What is told of the rowids of one table, and of several in turn.
use Rattle.std.proofs.Common.{◌≡◌, ◌⊎◌, ◌↔◌, ◌∙◌, Bool, true, false, List, [], ◌∷◌, Result, Ok, Err, IsTrue, sym, subst, arith, ap}
use Rattle.std.specs.List.{AllByRecursion, AllZip}
use Rattle.std.specs.Result.{IsErrAnd}
use Rattle.sqlite_value.specs.Order.{Row}
use Rattle.sqlite_trees.specs.Tree.{Trees}
use Rattle.sqlite_trees.specs.declared.store.Store.{Ghosts}
use Rattle.sqlite.specs.declared.error.Error.{Error}
use Rattle.sqlite.specs.Effect.{Database}
use Rattle.sqlite.specs.Held.{Held, state}
use Rattle.sqlite.specs.State.{HasCleanDisk, IsUnchanged, IsRolledBack, Survives}
use Rattle.sqlite.proofs.StateLemmas.{survives_then}
use Rattle.agv_store_schema.specs.DeskRows.{AreKeyed, StandApart, Placing, TableHas, table_names}
use Rattle.agv_store_schema.specs.Errors.{IsOfStore, is_of_store}
use Rattle.agv_store_schema.specs.Connections.{HasStorageCause}
use Rattle.agv_store_read.specs.OpenFault.{open_fault_of}
use Rattle.agv_store_rows.specs.Rows.{rows_of}
use Rattle.agv_store_read.specs.Rowids.{AreTablesKeyed, ShowRowids, TellsKeyed, TellsKeyedAlone}
use Rattle.agv_store_read.specs.WorldAnswers.{AnswersQuery}
use Rattle.agv_store_read.specs.declared.open_fault.OpenFault.{OpenFault}
use Rattle.agv_store_read.specs.declared.open_fault.OpenFault.TheVariants as fault
use Rattle.agv_store_schema.specs.declared.table_name.TableName.{TableName}
use Rattle.agv_store_read.proofs.Asking.{sound_of, storage_of}
use Rattle.agv_store_schema.proofs.DeskPlaces.{all_stand}
use Rattle.agv_store_schema.proofs.Later.{fault_later, later_by}
use Rattle.agv_store_read.proofs.RowidsKeyed.{keyed_alike}
use Rattle.agv_store_schema.proofs.StatesThen.{failed_then, unchanged_then}

module _ {S : Type 0} (g : Ghosts S) (old : Held S) where
  -- ---- one table

  module _ (new : Held S) (idle : old.in_transaction ≡ false → new.in_transaction ≡ false) (survives : Survives (state g old) (state g new) (λ _. ⊥)) where
    -- an error of the database
    pub keyed_error : (names : List TableName) (r : Result Bool OpenFault) (e : Error) → IsErrAnd r (λ why. why ≡ open_fault_of e) → (HasCleanDisk (state g new) → IsUnchanged (state g old) (state g new) ⊎ IsRolledBack (state g old) (state g new))
        → (HasCleanDisk (state g new) → IsOfStore e → (desk : Placing) → StandApart desk names → (state g old).now.schema ≡ desk.schema → HasStorageCause g old new) → TellsKeyedAlone g old new names r
    keyed_error names (Ok b) e is failed why = absurd is
    keyed_error names (Err f) e is failed why = record {
      told = λ _. tt;
      kept = λ _. tt;
      failed = failed;
      caused = λ clean stored. why clean (storage_of (is_of_store e) (sym is ∙ stored));
      sound = λ damaged. let same : f ≡ fault.Damaged = cc in sound_of (is_of_store e) (sym is ∙ same);
      idle = idle;
      survives = survives;
    }

    -- rows that are shown
    pub keyed_rows : (HasCleanDisk (state g new) → IsUnchanged (state g old) (state g new)) → (name : TableName) (rows : List Row) (b : Bool) → (HasCleanDisk (state g new) → ShowRowids name (state g old).now rows) → (IsTrue b ↔ AreKeyed rows) → TellsKeyedAlone g old new (name ∷ []) (Ok b)
    keyed_rows kept name rows b shown so = record {
      told = λ clean desk stand has.
          let alike = keyed_alike ((state g old).now.trees (desk.tree name)) rows (shown clean desk stand has) in
          ((λ yes. (alike.0 (so.0 yes), tt)), (λ all. so.1 (alike.1 all.0)));
      kept = kept;
      failed = λ _. tt;
      caused = λ _. tt;
      sound = λ damaged. cc damaged;
      idle = idle;
      survives = survives;
    }

  -- ---- several in turn

  -- a first that fails
  pub keyed_fails : (mid : Held S) (name : TableName) (others : List TableName) (f : OpenFault) (r : Result Bool OpenFault) → IsErrAnd r (λ why. why ≡ f) → TellsKeyedAlone g old mid (name ∷ []) (Err f) → TellsKeyedAlone g old mid (name ∷ others) r
  keyed_fails mid name others f (Ok b) is first = absurd is
  keyed_fails mid name others f (Err e) is first = record {
    told = λ _. tt;
    kept = λ _. tt;
    failed = first.failed;
    caused = λ clean stored desk stand has. first.caused clean (sym is ∙ stored) desk (record { stands = (stand.stands.0, tt); apart = stand.apart }) has;
    sound = λ damaged. first.sound (ap Err (sym is) ∙ damaged);
    idle = first.idle;
    survives = first.survives;
  }

  module _ (mid new : Held S) (name : TableName) (others : List TableName) (b : Bool) (yes : b ≡ true) (first : TellsKeyedAlone g old mid (name ∷ []) (Ok b)) where
    module _ (r : Result Bool OpenFault) (next : TellsKeyedAlone g mid new others r) where
      earlier : HasCleanDisk (state g new) → HasCleanDisk (state g mid)
      earlier clean = omega (arith, next.survives.clean)

      same : HasCleanDisk (state g new) → (state g mid).now ≡ (state g old).now
      same clean = (first.kept (earlier clean)).0.now_is

      moved : HasCleanDisk (state g new) → (desk : Placing) → (state g old).now.schema ≡ desk.schema → (state g mid).now.schema ≡ desk.schema
      moved clean desk has = subst (λ (db : Database). db.schema ≡ desk.schema) (sym (same clean)) has

      saved : Survives (state g old) (state g new) (λ _. ⊥)
      saved = survives_then (state g old) (state g mid) (state g new) _ _ (λ _. ⊥) (λ _ _ none. none) (λ _ _ none. none) first.survives next.survives

    the_first : (desk : Placing) → StandApart desk (name ∷ others) → StandApart desk (name ∷ [])
    the_first desk stand = record { stands = (stand.stands.0, tt); apart = stand.apart }

    the_others : (desk : Placing) → StandApart desk (name ∷ others) → StandApart desk others
    the_others desk stand = record { stands = stand.stands.1; apart = stand.apart }

    -- one table, and then the others
    pub keyed_then : (r : Result Bool OpenFault) → TellsKeyedAlone g mid new others r → TellsKeyedAlone g old new (name ∷ others) r
    keyed_then (Ok c) next = record {
      told = λ clean desk stand has.
          let one = first.told (earlier (Ok c) next clean) desk (the_first desk stand) has in
          let more = next.told clean desk (the_others desk stand) (moved (Ok c) next clean desk has) in
          let now = same (Ok c) next clean in (
            (λ all. ((one.0 yes).0, subst (λ (db : Database). AreTablesKeyed desk db others) now (more.0 all))),
            (λ all. more.1 (subst (λ (db : Database). AreTablesKeyed desk db others) (sym now) all.1)),
          );
      kept = λ clean. unchanged_then (state g old) (state g mid) (state g new) (first.kept (earlier (Ok c) next clean)) (next.kept clean);
      failed = λ _. tt;
      caused = λ _. tt;
      sound = λ damaged. cc damaged;
      idle = λ was. next.idle (first.idle was);
      survives = saved (Ok c) next;
    }
    keyed_then (Err f) next = record {
      told = λ _. tt;
      kept = λ _. tt;
      failed = λ clean. failed_then (state g old) (state g mid) (state g new) (first.kept (earlier (Err f) next clean)) (next.failed clean);
      caused = λ clean stored desk stand has. fault_later g old mid new (later_by g old mid first.survives) (later_by g mid new next.survives) clean (next.caused clean stored desk (the_others desk stand) (moved (Err f) next clean desk has));
      sound = next.sound;
      idle = λ was. next.idle (first.idle was);
      survives = saved (Err f) next;
    }

-- ---- where the fourteen stand

pub tells_all : {S : Type 0} (g : Ghosts S) (old new : Held S) (r : Result Bool OpenFault) → TellsKeyedAlone g old new table_names r → TellsKeyed g old new table_names r
tells_all g old new (Ok b) keyed = record {
  told = λ clean desk is has. keyed.told clean desk (all_stand desk is) has;
  kept = keyed.kept;
  failed = keyed.failed;
  caused = λ _. tt;
  sound = keyed.sound;
  idle = keyed.idle;
  survives = keyed.survives;
}
tells_all g old new (Err f) keyed = record {
  told = λ _. tt;
  kept = keyed.kept;
  failed = keyed.failed;
  caused = λ clean stored desk is has. keyed.caused clean stored desk (all_stand desk is) has;
  sound = keyed.sound;
  idle = keyed.idle;
  survives = keyed.survives;
}

-- ---- a query about the world whose rows the tables have: it is keyed

tables_keyed : (desk : Placing) (trees : Trees) (names : List TableName) (lists : List (List Row)) → AllZip (TableHas desk trees) names lists → AllByRecursion (λ name. AreKeyed (trees (desk.tree name))) names
tables_keyed desk trees [] [] h = tt
tables_keyed desk trees [] (rows ∷ lists) h = tt
tables_keyed desk trees (name ∷ names) [] h = absurd h
tables_keyed desk trees (name ∷ names) (rows ∷ lists) h = (h.0.0, tables_keyed desk trees names lists h.1)

pub tells_keyed : {S : Type 0} (g : Ghosts S) (old new : Held S) (r : Result Bool OpenFault) → TellsKeyed g old new table_names r → AnswersQuery g old new r (λ world keyed. IsTrue keyed)
tells_keyed g old new (Ok b) keyed = record {
  told = λ clean desk world has. (keyed.told clean desk has.stands has.rows.schema_is).1 (tables_keyed desk (state g old).now.trees table_names (rows_of world) has.rows.rows);
  kept = keyed.kept;
  answering = λ clean. let same = keyed.kept clean in (same.0.was_open, same.0.is_open);
  damaged = λ _. tt;
  failed = λ _. tt;
  caused = λ _. tt;
  idle = keyed.idle;
  survives = keyed.survives;
}
tells_keyed g old new (Err f) keyed = record {
  told = λ _. tt;
  kept = λ _. tt;
  answering = λ _. tt;
  damaged = λ clean damaged. absurd (keyed.sound (ap Err damaged));
  failed = keyed.failed;
  caused = λ clean stored desk world has. keyed.caused clean stored desk has.stands has.rows.schema_is;
  idle = keyed.idle;
  survives = keyed.survives;
}
