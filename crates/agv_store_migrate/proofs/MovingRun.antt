-- The statements of the move run in turn: those for each entry of a table, and those that create the three tables.
use Rattle.std.proofs.Common.{◌≡◌, ◌≤◌, ◌⊎◌, ◌∙◌, ◌++◌, ℕ, Bool, true, false, List, [], ◌∷◌, append_assoc, append-nil, Ok, Err, Result, IfErr, inl, inr, refl, sym, ap, subst, arith}
use Rattle.std.specs.List.{AllByRecursion, flat_map}
use Rattle.std.specs.Result.{IsErrAnd}
use Rattle.std.proofs.lemmas.Grind.{flat_map-append}
use Rattle.sqlite_trees.specs.declared.store.Store.{Ghosts}
use Rattle.sqlite.specs.Effect.{Database}
use Rattle.sqlite.specs.Held.{Held, state}
use Rattle.sqlite.specs.State.{HasCleanDisk, State, Survives}
use Rattle.sqlite.specs.declared.error.Error.{Error}
use Rattle.sqlite.specs.declared.error.Error.TheVariants.{SqliteFailure}
use Rattle.sqlite.specs.declared.error.ErrorCode.TheVariants.{OutOfMemory}
use Rattle.sqlite.specs.declared.transaction.Transaction.{Transaction}
use Rattle.agv_store_schema.proofs.Later.{fault_later, later_by}
use Rattle.agv_store_schema.specs.Connections.{HasStorageCause}
use Rattle.agv_store_schema.specs.Errors.{IsOfStore}
use Rattle.agv_world_core.specs.declared.world.World.{World as Tables}
use Rattle.agv_store_create.specs.MakingFault.{making_fault_of}
use Rattle.agv_store_create.specs.declared.making_fault.MakingFault.{MakingFault}
use Rattle.agv_store_create.specs.declared.making_fault.MakingFault.TheVariants as fault
use Rattle.agv_store_create.specs.Refusals.{RefusesSteps, RefusesText}
use Rattle.agv_store_create.specs.TextsRun.{RunSteps}
use Rattle.agv_store_sql.specs.Refusals.{RefusesOne, Statement}
use Rattle.agv_store_sql.proofs.sql.Failing.{IsCaused}
use Rattle.agv_store_migrate.specs.MoveStatements.{RefusesMove, adding_steps, row_statements}
use Rattle.agv_store_migrate.proofs.TablesPass.{no_room}
use Rattle.agv_store_sql.proofs.Refusing.{FailInside, RunInside, at, fails_early, fails_then, runs_none, runs_then}

-- ---- for each entry

-- what all entries have, one of them has
among_all : {E : Type 0} (P : E → Type 0) (before : List E) (one : E) (rest : List E) → AllByRecursion P (before ++ one ∷ rest) → P one
among_all P [] one rest all = all.0
among_all P (e ∷ before) one rest all = among_all P before one rest all.1

module _ {S : Type 0} (g : Ghosts S) {E : Type 0} (step : E → List Statement) (all : List E) where
  -- they ran for those before the rest
  pub record RunsFor (first : Transaction S) (rest : List E) (now : Transaction S) : Type 0 where
    pub before : List E
    pub is : before ++ rest ≡ all
    pub ran : RunInside g first now (flat_map step before)

  pub runs_first : (first : Transaction S) (rest : List E) → rest ≡ all → RunsFor first rest first
  runs_first first rest same = record { before = []; is = same; ran = runs_none g first }

  -- none is left
  pub runs_last : (first now : Transaction S) (rest : List E) → rest ≡ [] → RunsFor first rest now → RunInside g first now (flat_map step all)
  runs_last first now rest none it = subst (λ es. RunInside g first now (flat_map step es)) (sym (append-nil it.before) ∙ ap (λ es. it.before ++ es) (sym none) ∙ it.is) it.ran

  module _ (first now next : Transaction S) (one : E) (left rest : List E) (more : left ≡ one ∷ rest) (it : RunsFor first left now) where
    pub has : (P : E → Type 0) → AllByRecursion P all → P one
    has P each = among_all P it.before one rest (subst (AllByRecursion P) (sym it.is ∙ ap (λ es. it.before ++ es) more) each)

    module _ (was : Survives (at g first) (at g now) (λ _. ⊥)) (will : Survives (at g now) (at g next) (λ _. ⊥)) where
      -- for one more
      pub runs_next : RunInside g now next (step one) → RunsFor first rest next
      runs_next ran = record {
        before = it.before ++ one ∷ [];
        is = append_assoc it.before (one ∷ []) rest ∙ ap (λ es. it.before ++ es) (sym more) ∙ it.is;
        ran = subst (RunInside g first next) (ap (λ ss. flat_map step it.before ++ ss) (sym (append-nil (step one))) ∙ sym (flat_map-append step it.before (one ∷ [])))
            (runs_then g first now next (flat_map step it.before) (step one) was will it.ran ran);
      }

      -- one of them failed
      pub fails_next : (e : Error) → FailInside g now next (step one) e → FailInside g first next (flat_map step all) e
      fails_next e fails =
          let whole : (flat_map step it.before ++ step one) ++ flat_map step rest ≡ flat_map step all =
          append_assoc (flat_map step it.before) (step one) (flat_map step rest) ∙ sym (flat_map-append step it.before (one ∷ rest)) ∙ ap (flat_map step) (ap (λ es. it.before ++ es) (sym more) ∙ it.is) in
          subst (λ ss. FailInside g first next ss e) whole
          (fails_early g first next (flat_map step it.before ++ step one) (flat_map step rest) e (fails_then g first now next (flat_map step it.before) (step one) was will it.ran e fails))

-- ---- the texts that create the tables

pub refuses_after : (steps more : List (Bool × List ℕ)) (a b : Database) → RunSteps steps a b → RefusesSteps more b → RefusesSteps (steps ++ more) a
refuses_after [] more a b ran refuses = subst (RefusesSteps more) ran refuses
refuses_after ((true, sql) ∷ steps) more a b ran refuses = inr (ran.0, ran.1, refuses_after steps more ran.0 b ran.2 refuses)
refuses_after ((false, sql) ∷ steps) more a b ran refuses = refuses_after steps more a b ran refuses

module _ {S : Type 0} (g : Ghosts S) where
  -- why a text failed, after others of the steps that ran
  pub text_caused : (first mid now : Held S) (before more : List (Bool × List ℕ)) (sql : List ℕ) (r : Result ℕ Error) → Survives (state g first) (state g mid) (λ _. ⊥) → Survives (state g mid) (state g now) (λ _. ⊥)
      → HasCleanDisk (state g now) → RunSteps before (state g first).now (state g mid).now → IfErr r (λ why. IsOfStore why → HasStorageCause g mid now ⊎ RefusesText sql (state g mid).now)
      → IfErr r (λ why. IsOfStore why → HasStorageCause g first now ⊎ RefusesSteps (before ++ (true, sql) ∷ more) (state g first).now)
  text_caused first mid now before more sql (Ok count) was will clean ran caused = tt
  text_caused first mid now before more sql (Err e) was will clean ran caused = λ of. elim (caused of) [
    | inl cause ↦ inl (fault_later g first mid now (later_by g first mid was) (later_by g mid now will) clean cause)
    | inr refuses ↦ inr (refuses_after before ((true, sql) ∷ more) _ _ ran (inl refuses))
  ]

  -- the rows were not moved, after the tables were made
  pub rows_caused : (first mid last : Held S) (tables : Tables) → Survives (state g first) (state g mid) (λ _. ⊥) → Survives (state g mid) (state g last) (λ _. ⊥) → HasCleanDisk (state g last)
      → RunSteps adding_steps (state g first).now (state g mid).now → HasStorageCause g mid last ⊎ RefusesOne (row_statements tables) (state g mid).now
      → HasStorageCause g first last ⊎ RefusesMove tables (state g first).now
  rows_caused first mid last tables was will clean ran (inl cause) = inl (fault_later g first mid last (later_by g first mid was) (later_by g mid last will) clean cause)
  rows_caused first mid last tables was will clean ran (inr refuses) = inr (inr ((state g mid).now, ran, refuses))

-- an error that `?` passes on
pub passed_on : {X : Type 0} (Cause Refuses : Type 0) (r : Result X Error) (e : Error) → IsErrAnd r (λ told. told ≡ e) → (IsOfStore e → Cause ⊎ Refuses) → IfErr r (λ why. IsOfStore why → Cause ⊎ Refuses)
passed_on Cause Refuses (Ok x) e is caused = tt
passed_on Cause Refuses (Err told) e is caused = λ of. caused (subst IsOfStore is of)

-- the transaction was undone after it failed
pub undone_caused : (first last end : State) (Refuses : Type 0) → last.faults ≤ end.faults → IsCaused first last ⊎ Refuses → IsCaused first end ⊎ Refuses
undone_caused first last end Refuses after (inl (inl more)) = inl (inl (omega (arith, after, more)))
undone_caused first last end Refuses after (inl (inr before)) = inl (inr before)
undone_caused first last end Refuses after (inr refuses) = inr refuses

-- the tables were not made
pub not_added : {Cause : Type 0} (tables : Tables) (db : Database) → Cause ⊎ RefusesSteps adding_steps db → Cause ⊎ RefusesMove tables db
not_added tables db (inl cause) = inl cause
not_added tables db (inr refuses) = inr (inl (no_room db refuses))

-- a fault that is told as `Storage` is one of the store
of_storage : (e : Error) → making_fault_of e ≡ fault.Storage → IsOfStore e
of_storage (SqliteFailure OutOfMemory) is = absurd (cc is)
of_storage _ is = refl

abbrev fault_or : MakingFault → Result (Unit {0}) MakingFault → MakingFault
fault_or why (Ok it) = why
fault_or why (Err told) = told

pub told_of_store : (r : Result (Unit {0}) MakingFault) (e : Error) → IsErrAnd r (λ told. told ≡ making_fault_of e) → r ≡ Err fault.Storage → IsOfStore e
told_of_store (Ok it) e made is = absurd made
told_of_store (Err told) e made is = of_storage e (sym made ∙ ap (fault_or told) is)
