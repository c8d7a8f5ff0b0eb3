-- Steps of which one fails: SQL refuses it after those before it ran, or the connection has the cause.
use Rattle.std.proofs.Common.{◌≡◌, ◌≤◌, ◌<◌, ◌⊎◌, ℕ, zero, suc, Bool, true, false, List, [], ◌∷◌, ◌++◌, map, take, length, get_or, Option, IsSome, Ok, Err, Result, IfErr, IsErrAnd, IsTrue, inl, inr, sym, subst, arith}
use Rattle.std.proofs.lemmas.Bool.{both_ways, cases_Bool}
use Rattle.sqlite_trees.specs.Tree.{Trees}
use Rattle.sqlite.specs.declared.error.Error.{Error}
use Rattle.sqlite.specs.Effect.{Database}
use Rattle.sqlite.specs.State.{State, HasCleanDisk, Survives}
use Rattle.sqlite.specs.Steps.{FailsToCommit}
use Rattle.agv_store_schema.specs.Errors.{IsOfStore}
use Rattle.agv_store_create.specs.Refusals.{RefusesSteps, RefusesText}
use Rattle.agv_store_create.specs.TextsRun.{RunSteps, RunsSteps}
use Rattle.agv_store_create.proofs.Causes.{HasCauseIn, store_fails}

-- ---- the step that is refused

refuses_before : (steps more : List (Bool × List ℕ)) (a : Database) → RefusesSteps steps a → RefusesSteps (steps ++ more) a
refuses_before [] more a refused = absurd refused
refuses_before ((true, sql) ∷ steps) more a (inl refused) = inl refused
refuses_before ((true, sql) ∷ steps) more a (inr later) = inr (later.0, later.1, refuses_before steps more later.0 later.2)
refuses_before ((false, sql) ∷ steps) more a refused = refuses_before steps more a refused

refuses_next : (step : Bool × List ℕ) (before steps : List (Bool × List ℕ)) (a b : Database) → RunSteps (step ∷ before) a b → ((next : Database) → RunSteps before next b → RefusesSteps steps next) → RefusesSteps (step ∷ steps) a
refuses_next (true, sql) before steps a b ran later = inr (ran.0, ran.1, later ran.0 ran.2)
refuses_next (false, sql) before steps a b ran later = later a ran

refuses_at : {C : Type 0} (by : C → Bool × List ℕ) (all : List C) (i : ℕ) (d : C) (a b : Database) → i < length all → RunSteps (map by (take i all)) a b → RefusesSteps (by (get_or all i d) ∷ []) b → RefusesSteps (map by all) a
refuses_at by [] i d a b low ran refused = absurd (omega (arith, low))
refuses_at by (c ∷ all) zero d a b low ran refused = refuses_before (by c ∷ []) (map by all) a (subst (RefusesSteps (by c ∷ [])) ran refused)
refuses_at by (c ∷ all) (suc i) d a b low ran refused =
    refuses_next (by c) (map by (take i all)) (map by all) a b ran (λ next more. refuses_at by all i d next b (omega (arith, low)) more refused)

-- a text is one step
pub as_step : (is_wanted : Bool) (sql : List ℕ) (db : Database) (Cause : Type 0) (r : Result ℕ Error) → is_wanted ≡ true → IfErr r (λ why. IsOfStore why → Cause ⊎ RefusesText sql db)
    → IfErr r (λ why. IsOfStore why → Cause ⊎ RefusesSteps ((is_wanted, sql) ∷ []) db)
as_step is_wanted sql db Cause (Ok count) is h = tt
as_step false sql db Cause (Err e) is h = absurd (cc)
as_step true sql db Cause (Err e) is h = λ of. elim (h of) [ inl cause ↦ inl cause | inr refused ↦ inr (inl refused) ]

-- ---- the cause

-- a cause that a part of the calls has is one of all of them
cause_within : (first was mid end : State) {Leaves : Trees → Type 0} → Survives first was Leaves → HasCleanDisk was → was.faults ≤ mid.faults → mid.faults ≤ end.faults → HasCauseIn was mid → HasCauseIn first end
cause_within first was mid end before clean within after (inl more) = inl (omega (arith, before.counts, after, more))
cause_within first was mid end before clean within after (inr (inl shut)) = elim (cases_Bool first.is_open) [
  | inl was_open ↦ elim (before.closes clean was_open) [ inl still ↦ absurd (both_ways was.is_open shut still) | inr more ↦ inl (omega (arith, within, after, more)) ]
  | inr was_shut ↦ inr (inl was_shut)
]
cause_within first was mid end before clean within after (inr (inr limited)) = let Limited : Option ℕ → Type 0 = λ o. IsSome o in inr (inr (subst Limited before.limit limited))

-- an error that `?` passes on
pub passed_on : {X : Type 0} (P : Error → Type 0) (r : Result X Error) (e : Error) → IsErrAnd r (λ made. made ≡ e) → P e → IfErr r P
passed_on P (Ok x) e is h = tt
passed_on P (Err made) e is h = subst P (sym is) h

-- one of the steps fails, and the transaction is undone
pub step_caused : {C : Type 0} (by : C → Bool × List ℕ) (steps : List C) (i : ℕ) (d : C) (first was mid end : State) {Leaves : Trees → Type 0} → Survives first was Leaves → HasCleanDisk was
    → was.faults ≤ mid.faults → mid.faults ≤ end.faults → i < length steps → RunsSteps (map by (take i steps)) first was → HasCauseIn was mid ⊎ RefusesSteps (by (get_or steps i d) ∷ []) was.now
    → HasCauseIn first end ⊎ RefusesSteps (map by steps) first.now
step_caused by steps i d first was mid end before clean within after low ran (inl cause) = inl (cause_within first was mid end before clean within after cause)
step_caused by steps i d first was mid end before clean within after low ran (inr refused) = inr (refuses_at by steps i d first.now was.now low ran.ran refused)

-- the commit fails
pub commit_caused : {X : Type 0} (Refuses : Type 0) (first last end : State) (r : Result X Error) {Leaves : Trees → Type 0} → Survives first last Leaves → HasCleanDisk last → last.faults ≤ end.faults → IsTrue last.in_transaction
    → IfErr r (FailsToCommit last end) → IfErr r (λ why. IsOfStore why → HasCauseIn first end ⊎ Refuses)
commit_caused Refuses first last end (Ok x) before clean within inside fails = tt
commit_caused Refuses first last end (Err e) before clean within inside (inl fails) = λ of.
    let none : ⊥ → HasCauseIn last end ⊎ Refuses = λ never. absurd never in
    elim (store_fails last end e of fails none) [ inl cause ↦ inl (cause_within first last end end before clean within (omega arith) cause) | inr refused ↦ inr refused ]
commit_caused Refuses first last end (Err e) before clean within inside (inr outside) = λ of. absurd (both_ways last.in_transaction outside.1 inside)
