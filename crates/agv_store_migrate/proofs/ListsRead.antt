-- What is read of the rows of one table, and of several in turn.
use Rattle.std.proofs.Common.{◌≡◌, ◌⊎◌, ◌∙◌, Bool, true, false, List, [], ◌∷◌, map, Result, Ok, Err, Vec, sym, subst, arith, inl}
use Rattle.std.proofs.lemmas.Bool.{both_ways}
use Rattle.std.proofs.lemmas.List.Sorted.{IsPermutation-refl, IsPermutation-sym}
use Rattle.std.specs.List.{AllZip}
use Rattle.std.specs.Result.{IsErrAnd}
use Rattle.sqlite_value.specs.Order.{Row}
use Rattle.sqlite_trees.specs.declared.store.Store.{Ghosts}
use Rattle.sqlite.specs.declared.error.Error.{Error}
use Rattle.sqlite.specs.Effect.{Database}
use Rattle.sqlite.specs.Held.{Held, state}
use Rattle.sqlite.specs.State.{HasCleanDisk, IsRolledBack, IsUnchanged, Survives}
use Rattle.sqlite.proofs.StateLemmas.{survives_then}
use Rattle.agv_store_migrate.specs.FirstFound.{ReadsLists, StaysBy, all_lists, one_list}
use Rattle.agv_store_read.specs.OpenFault.{open_fault_of}
use Rattle.agv_store_read.specs.Rowids.{AreTablesKeyed, TellsKeyedAlone}
use Rattle.agv_store_schema.specs.DeskRows.{AnswersAlone, Placing, StandApart, TableHas, shown_in}
use Rattle.agv_store_schema.specs.Connections.{HasStorageCause}
use Rattle.agv_store_schema.specs.Errors.{IsOfStore, is_of_store}
use Rattle.agv_store_read.specs.declared.open_fault.OpenFault.{OpenFault}
use Rattle.agv_store_read.specs.declared.open_fault.OpenFault.TheVariants as fault
use Rattle.agv_store_schema.specs.declared.table_name.TableName.{TableName}
use Rattle.agv_store_read.proofs.Asking.{sound_of, storage_of}
use Rattle.agv_store_schema.proofs.Later.{fault_later, later_by}
use Rattle.agv_store_schema.proofs.StatesThen.{failed_then, unchanged_then}

-- an error of one table, and of several, as an error of lists
pub one_err : {A : Type 0} (why : OpenFault) (r : Result (Vec Row A) OpenFault) → IsErrAnd r (λ made. made ≡ why) → IsErrAnd (one_list r) (λ made. made ≡ why)
one_err why (Ok rows) is = absurd is
one_err why (Err made) is = is

pub all_err : {A B : Type 0} (why : OpenFault) (r : Result (Vec (Vec Row A) B) OpenFault) → IsErrAnd r (λ made. made ≡ why) → IsErrAnd (all_lists r) (λ made. made ≡ why)
all_err why (Ok lists) is = absurd is
all_err why (Err made) is = is

-- where the tables stand, the first of them does, and so do the others
the_first : (desk : Placing) (name : TableName) (others : List TableName) → StandApart desk (name ∷ others) → StandApart desk (name ∷ [])
the_first desk name others stand = record { stands = (stand.stands.0, tt); apart = stand.apart }

the_others : (desk : Placing) (name : TableName) (others : List TableName) → StandApart desk (name ∷ others) → StandApart desk others
the_others desk name others stand = record { stands = stand.stands.1; apart = stand.apart }

-- what reads nothing leaves all as it is
stays_then : {S : Type 0} (g : Ghosts S) (names : List TableName) (a b c : Held S) → IsUnchanged (state g a) (state g b) → StaysBy g names b c → IsUnchanged (state g a) (state g c)
stays_then g [] a b c one same = subst (λ (held : Held _). IsUnchanged (state g a) (state g held)) (sym same) one
stays_then g (name ∷ names) a b c one two = unchanged_then (state g a) (state g b) (state g c) one two

module _ {S : Type 0} (g : Ghosts S) where
  -- memory ran out after all was read
  pub reads_short : (old new : Held S) (name : TableName) (others : List TableName) (lists : List (List Row)) (r : Result (List (List Row)) OpenFault) → IsErrAnd r (λ made. made ≡ fault.Memory)
      → ReadsLists g old new (name ∷ others) (Ok lists) → ReadsLists g old new (name ∷ others) r
  reads_short old new name others lists (Ok more) is reads = absurd is
  reads_short old new name others lists (Err made) is reads = record {
    told = λ _. tt;
    damaged = λ clean damaged. let wrong = sym is ∙ damaged in absurd (cc wrong);
    caused = λ clean stored. let wrong = sym is ∙ stored in absurd (cc wrong);
    kept = λ _. tt;
    failed = λ clean. inl (reads.kept clean);
    idle = reads.idle;
    survives = reads.survives;
  }

  -- ---- one table

  module _ (old mid : Held S) (name : TableName) where
    -- the numbers of the rows weren't told
    pub numbers_fail : (r : Result (List (List Row)) OpenFault) (why : OpenFault) → IsErrAnd r (λ made. made ≡ why) → TellsKeyedAlone g old mid (name ∷ []) (Err why) → ReadsLists g old mid (name ∷ []) r
    numbers_fail (Ok lists) why is keyed = absurd is
    numbers_fail (Err made) why is keyed = record {
      told = λ _. tt;
      damaged = λ clean damaged. absurd (keyed.sound (let same = sym is ∙ damaged in λ i. Err (same i)));
      caused = λ clean stored. keyed.caused clean (sym is ∙ stored);
      kept = λ _. tt;
      failed = keyed.failed;
      idle = keyed.idle;
      survives = keyed.survives;
    }

    -- a row has no number of its own
    pub unnumbered : (b : Bool) → b ≡ false → TellsKeyedAlone g old mid (name ∷ []) (Ok b) → ReadsLists g old mid (name ∷ []) (Err fault.Damaged)
    unnumbered b isnt keyed = record {
      told = λ _. tt;
      damaged = λ clean _ desk stand has all. both_ways b isnt ((keyed.told clean desk stand has).1 all);
      caused = λ clean wrong. absurd (cc wrong);
      kept = λ _. tt;
      failed = λ clean. inl (keyed.kept clean);
      idle = keyed.idle;
      survives = keyed.survives;
    }

    module _ (new : Held S) (b : Bool) (yes : b ≡ true) (keyed : TellsKeyedAlone g old mid (name ∷ []) (Ok b)) (idle : mid.in_transaction ≡ false → new.in_transaction ≡ false) (survives : Survives (state g mid) (state g new) (λ _. ⊥)) where
      earlier : HasCleanDisk (state g new) → HasCleanDisk (state g mid)
      earlier clean = omega (arith, survives.clean)

      saved : Survives (state g old) (state g new) (λ _. ⊥)
      saved = survives_then (state g old) (state g mid) (state g new) _ _ (λ _. ⊥) (λ _ _ none. none) (λ _ _ none. none) keyed.survives survives

      -- the rows weren't shown
      pub rows_fail : (r : Result (List (List Row)) OpenFault) (e : Error) → IsErrAnd r (λ made. made ≡ open_fault_of e)
          → (HasCleanDisk (state g new) → IsUnchanged (state g mid) (state g new) ⊎ IsRolledBack (state g mid) (state g new))
          → (HasCleanDisk (state g new) → IsOfStore e → (desk : Placing) → StandApart desk (name ∷ []) → (state g mid).now.schema ≡ desk.schema → HasStorageCause g mid new) → ReadsLists g old new (name ∷ []) r
      rows_fail (Ok lists) e is failed why = absurd is
      rows_fail (Err made) e is failed why = record {
        told = λ _. tt;
        damaged = λ clean damaged. absurd (sound_of (is_of_store e) (sym is ∙ damaged));
        caused = λ clean stored desk stand has.
            fault_later g old mid new (later_by g old mid keyed.survives) (later_by g mid new survives) clean
            (why clean (storage_of (is_of_store e) (sym is ∙ stored)) desk stand (subst (λ (db : Database). db.schema ≡ desk.schema) (sym (keyed.kept (earlier clean)).0.now_is) has));
        kept = λ _. tt;
        failed = λ clean. failed_then (state g old) (state g mid) (state g new) (keyed.kept (earlier clean)) (failed clean);
        idle = λ was. idle (keyed.idle was);
        survives = saved;
      }

      -- the rows were shown
      pub rows_shown : (rows : List Row) → (HasCleanDisk (state g new) → IsUnchanged (state g mid) (state g new)) → (HasCleanDisk (state g new) → AnswersAlone name (state g mid) rows) → ReadsLists g old new (name ∷ []) (Ok (rows ∷ []))
      rows_shown rows kept shown = record {
        told = λ clean desk stand has.
            let same : (state g mid).now ≡ (state g old).now = (keyed.kept (earlier clean)).0.now_is in
            let there = ((keyed.told (earlier clean) desk stand has).0 yes).0 in
            let entries = (state g old).now.trees (desk.tree name) in
            let all = map (shown_in desk name) entries in
            let at_mid : TableHas desk (state g mid).now.trees name all = subst (λ (db : Database). TableHas desk db.trees name all) (sym same) (there, IsPermutation-refl all) in
            ((there, IsPermutation-sym _ _ (shown clean desk stand (subst (λ (db : Database). db.schema ≡ desk.schema) (sym same) has) all at_mid)), tt);
        damaged = λ _. tt;
        caused = λ _. tt;
        kept = λ clean. unchanged_then (state g old) (state g mid) (state g new) (keyed.kept (earlier clean)) (kept clean);
        failed = λ _. tt;
        idle = λ was. idle (keyed.idle was);
        survives = saved;
      }

  -- ---- several in turn

  -- one table, and then the others
  module _ (old mid new : Held S) (name : TableName) (others : List TableName) (rows : List Row) (first : ReadsLists g old mid (name ∷ []) (Ok (rows ∷ []))) where
    module _ (r : Result (List (List Row)) OpenFault) (next : ReadsLists g mid new others r) where
      before : HasCleanDisk (state g new) → HasCleanDisk (state g mid)
      before clean = omega (arith, next.survives.clean)

      same_now : HasCleanDisk (state g new) → (state g mid).now ≡ (state g old).now
      same_now clean = (first.kept (before clean)).0.now_is

      moved : HasCleanDisk (state g new) → (desk : Placing) → (state g old).now.schema ≡ desk.schema → (state g mid).now.schema ≡ desk.schema
      moved clean desk has = subst (λ (db : Database). db.schema ≡ desk.schema) (sym (same_now clean)) has

      both_survive : Survives (state g old) (state g new) (λ _. ⊥)
      both_survive = survives_then (state g old) (state g mid) (state g new) _ _ (λ _. ⊥) (λ _ _ none. none) (λ _ _ none. none) first.survives next.survives

    pub reads_then : (lists : List (List Row)) → ReadsLists g mid new others (Ok lists) → ReadsLists g old new (name ∷ others) (Ok (rows ∷ lists))
    reads_then lists next = record {
      told = λ clean desk stand has.
          let one = first.told (before (Ok lists) next clean) desk (the_first desk name others stand) has in
          let more = next.told clean desk (the_others desk name others stand) (moved (Ok lists) next clean desk has) in
          (one.0, subst (λ (db : Database). AllZip (TableHas desk db.trees) others lists) (same_now (Ok lists) next clean) more);
      damaged = λ _. tt;
      caused = λ _. tt;
      kept = λ clean. stays_then g others old mid new (first.kept (before (Ok lists) next clean)) (next.kept clean);
      failed = λ _. tt;
      idle = λ was. next.idle (first.idle was);
      survives = both_survive (Ok lists) next;
    }

    pub reads_then_fails : (r : Result (List (List Row)) OpenFault) (why : OpenFault) → IsErrAnd r (λ made. made ≡ why) → ReadsLists g mid new others (Err why) → ReadsLists g old new (name ∷ others) r
    reads_then_fails (Ok lists) why is next = absurd is
    reads_then_fails (Err made) why is next = record {
      told = λ _. tt;
      damaged = λ clean damaged desk stand has all.
          next.damaged clean (sym is ∙ damaged) desk (the_others desk name others stand) (moved (Err why) next clean desk has)
          (subst (λ (db : Database). AreTablesKeyed desk db others) (sym (same_now (Err why) next clean)) all.1);
      caused = λ clean stored desk stand has.
          fault_later g old mid new (later_by g old mid first.survives) (later_by g mid new next.survives) clean
          (next.caused clean (sym is ∙ stored) desk (the_others desk name others stand) (moved (Err why) next clean desk has));
      kept = λ _. tt;
      failed = λ clean. failed_then (state g old) (state g mid) (state g new) (first.kept (before (Err why) next clean)) (next.failed clean);
      idle = λ was. next.idle (first.idle was);
      survives = both_survive (Err why) next;
    }

  -- the first failed
  pub first_fails : (old mid : Held S) (name : TableName) (others : List TableName) (r : Result (List (List Row)) OpenFault) (why : OpenFault) → IsErrAnd r (λ made. made ≡ why)
      → ReadsLists g old mid (name ∷ []) (Err why) → ReadsLists g old mid (name ∷ others) r
  first_fails old mid name others (Ok lists) why is reads = absurd is
  first_fails old mid name others (Err made) why is reads = record {
    told = λ _. tt;
    damaged = λ clean damaged desk stand has all. reads.damaged clean (sym is ∙ damaged) desk (the_first desk name others stand) has (all.0, tt);
    caused = λ clean stored desk stand has. reads.caused clean (sym is ∙ stored) desk (the_first desk name others stand) has;
    kept = λ _. tt;
    failed = reads.failed;
    idle = reads.idle;
    survives = reads.survives;
  }
