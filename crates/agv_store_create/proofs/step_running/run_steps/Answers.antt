use Rattle.std.proofs.Common.{◌≡◌, ◌⊎◌, ◌<◌, ◌≤◌, length, IsTrue, IfErr, OnOk, map, take, take_all, List, Bool, false, ℕ, [], Bor, refl, sym, subst, ◌∙◌, arith, rules}
use Rattle.sqlite.specs.State.{HasCleanDisk, IsRolledBack, Survives}
use Rattle.sqlite.specs.Held.{state}
use Rattle.sqlite.proofs.StateLemmas.{survives_then}
use Rattle.sqlite.proofs.Callers.{survives_begin}
use Rattle.agv_store_schema.specs.Errors.{IsOfStore}
use Rattle.agv_store_create.specs.Refusals.{RefusesSteps}
use Rattle.agv_store_create.specs.TextsRun.{LeavesSteps, RunSteps}
use Rattle.agv_store_schema.proofs.StatesKept.{keeps_itself, keeps_then, on_err, on_ok, open_by_commit, open_by_undoing, undone_to}
use Rattle.agv_store_create.proofs.Causes.{HasCauseIn}
use Rattle.agv_store_create.proofs.StepsRefused.{commit_caused, passed_on, step_caused}
use Rattle.agv_store_create.proofs.StepsRun.{runs_none, runs_next}
use Rattle.agv_store_create.proofs.step_running.run_steps.Goals as goal

-- a step as its clause has it
abbrev told : Bool × Bor (List ℕ) → Bool × List ℕ
told step = (step.0, step.1.now)

pub loop-step-init : goal.loop-step-init
loop-step-init g c = let first = state g.S.Store c.transaction-tx.result.conn.now in (refl, search rules, λ clean. (keeps_itself first, runs_none first (search rules)))

pub loop-step-preserved : goal.loop-step-preserved
loop-step-preserved g c =
    let first = state g.S.Store c.transaction-tx.result.conn.now in
    let was = state g.S.Store c.loop-step.tx.conn.now in
    let now = state g.S.Store c.run_step.new.tx.conn.now in
    let so_far = c.loop-step.invariant in (
      c.run_step.ensures.same_reference ∙ so_far.0,
      survives_then first was now _ _ (λ _. ⊥) (λ _ db none. none) (λ _ db none. none) so_far.1 c.run_step.ensures.survives,
      λ clean.
          let early : HasCleanDisk was = omega (arith, c.run_step.ensures.survives.clean) in
          let before = so_far.2 early in
          let low : c.loop-step.step-index < length c.args.steps.now = search rules in (
            keeps_then first was now before.0 (c.run_step.ensures.kept clean),
            runs_next told c.args.steps.now c.loop-step.step-index (false, record { ref_ptr = (0, 0); now = [] }) first was now low before.1 (c.in_ok-run_step.ensures.ran clean before.1.mode),
          ),
    )

pub returns-in_err-run_step-clause-undone : goal.returns-in_err-run_step-clause-undone
returns-in_err-run_step-clause-undone g c clean still =
    let first = state g.S.Store c.transaction-tx.result.conn.now in
    let was = state g.S.Store c.loop-step.tx.conn.now in
    let mid = state g.S.Store c.run_step.new.tx.conn.now in
    let end = state g.S.Store c.conn-1.given.0 in
    let same : c.drop-tx.new.self.0 ≡ c.conn-1.given.0 = search rules in
    let late : HasCleanDisk (state g.S.Store c.drop-tx.new.self.0) = search rules in
    let back : IsRolledBack mid end = subst (λ h. IsRolledBack mid (state g.S.Store h)) same (c.drop-tx.ensures.undone late) in
    let before : HasCleanDisk mid = omega (arith, c.drop-tx.ensures.survives.clean) in
    let early : HasCleanDisk was = omega (arith, c.run_step.ensures.survives.clean) in
    let kept = keeps_then first was mid (c.loop-step.invariant.2 early).0 (c.run_step.ensures.kept before) in
    on_err c.from_residual.result (rw c.transaction-tx.ensures.begun at (undone_to first mid end kept back still))

pub returns-in_err-run_step-clause-was_open : goal.returns-in_err-run_step-clause-was_open
returns-in_err-run_step-clause-was_open g c clean still =
    let first = state g.S.Store c.transaction-tx.result.conn.now in
    let was = state g.S.Store c.loop-step.tx.conn.now in
    let mid = state g.S.Store c.run_step.new.tx.conn.now in
    let end = state g.S.Store c.conn-1.given.0 in
    let same : c.drop-tx.new.self.0 ≡ c.conn-1.given.0 = search rules in
    let late : HasCleanDisk (state g.S.Store c.drop-tx.new.self.0) = search rules in
    let back : IsRolledBack mid end = subst (λ h. IsRolledBack mid (state g.S.Store h)) same (c.drop-tx.ensures.undone late) in
    let before : HasCleanDisk mid = omega (arith, c.drop-tx.ensures.survives.clean) in
    let early : HasCleanDisk was = omega (arith, c.run_step.ensures.survives.clean) in
    let kept = keeps_then first was mid (c.loop-step.invariant.2 early).0 (c.run_step.ensures.kept before) in
    rw c.transaction-tx.ensures.begun at (open_by_undoing first mid end kept back still)

pub returns-in_err-run_step-clause-caused : goal.returns-in_err-run_step-clause-caused
returns-in_err-run_step-clause-caused g c clean =
    let first = state g.S.Store c.transaction-tx.result.conn.now in
    let was = state g.S.Store c.loop-step.tx.conn.now in
    let mid = state g.S.Store c.run_step.new.tx.conn.now in
    let end = state g.S.Store c.conn-1.given.0 in
    let same : c.drop-tx.new.self.0 ≡ c.conn-1.given.0 = search rules in
    let late : HasCleanDisk (state g.S.Store c.drop-tx.new.self.0) = search rules in
    let before : HasCleanDisk mid = omega (arith, c.drop-tx.ensures.survives.clean) in
    let early : HasCleanDisk was = omega (arith, c.run_step.ensures.survives.clean) in
    let after : mid.faults ≤ end.faults = subst (λ h. mid.faults ≤ (state g.S.Store h).faults) same c.drop-tx.ensures.survives.counts in
    let so_far = c.loop-step.invariant in
    let ran = (so_far.2 early).1 in
    let low : c.loop-step.step-index < length c.args.steps.now = search rules in
    let caused = c.in_err-run_step.ensures.caused before ran.mode in
    passed_on (λ why. IsOfStore why → HasCauseIn (state g.S.Store c.args.conn.now) end ⊎ RefusesSteps (map told c.args.steps.now) (state g.S.Store c.args.conn.now).now) c.from_residual.result c.in_err-run_step.field-0.0 c.from_residual.ensures.1 (λ of.
    rw c.transaction-tx.ensures.begun at (step_caused told c.args.steps.now c.loop-step.step-index (false, record { ref_ptr = (0, 0); now = [] }) first was mid end so_far.1 early c.run_step.ensures.survives.counts after low ran (caused of)))

pub returns-clause-ran : goal.returns-clause-ran
returns-clause-ran g c clean =
    let old = state g.S.Store c.args.conn.now in
    let first = state g.S.Store c.transaction-tx.result.conn.now in
    let last = state g.S.Store c.loop-step.tx.conn.now in
    let same : c.commit.new.self.0 ≡ c.conn-2-1.given.0 = search rules in
    let late : HasCleanDisk (state g.S.Store c.commit.new.self.0) = search rules in
    let early : HasCleanDisk last = omega (arith, c.commit.ensures.survives.clean) in
    let steps = map told c.args.steps.now in
    let whole : take c.loop-step.step-index c.args.steps.now ≡ c.args.steps.now = take_all c.loop-step.step-index c.args.steps.now c.loop-step-test.false in
    let all : RunSteps steps old.now last.now = rw c.transaction-tx.ensures.begun at (subst (λ ss. RunSteps (map told ss) first.now last.now) whole (c.loop-step.invariant.2 early).1.ran) in
    subst (λ h. OnOk c.commit.result (RunSteps steps old.now (state g.S.Store h).committed)) same
    (on_ok c.commit.result (λ it. subst (RunSteps steps old.now) (sym it.1.committed_is) all) (c.commit.ensures.ok late))

pub returns-clause-open : goal.returns-clause-open
returns-clause-open g c clean =
    let old = state g.S.Store c.args.conn.now in
    let first = state g.S.Store c.transaction-tx.result.conn.now in
    let last = state g.S.Store c.loop-step.tx.conn.now in
    let same : c.commit.new.self.0 ≡ c.conn-2-1.given.0 = search rules in
    let late : HasCleanDisk (state g.S.Store c.commit.new.self.0) = search rules in
    let early : HasCleanDisk last = omega (arith, c.commit.ensures.survives.clean) in
    let kept = rw c.transaction-tx.ensures.begun at (c.loop-step.invariant.2 early).0 in
    subst (λ h. OnOk c.commit.result (IsTrue old.is_open × IsTrue (state g.S.Store h).is_open)) same
    (on_ok c.commit.result (λ it. (kept.was_open it.1.was_open, it.1.is_open)) (c.commit.ensures.ok late))

pub returns-clause-was_open : goal.returns-clause-was_open
returns-clause-was_open g c clean still =
    let first = state g.S.Store c.transaction-tx.result.conn.now in
    let last = state g.S.Store c.loop-step.tx.conn.now in
    let end = state g.S.Store c.commit.new.self.0 in
    let same : c.commit.new.self.0 ≡ c.conn-2-1.given.0 = search rules in
    let late : HasCleanDisk end = search rules in
    let early : HasCleanDisk last = omega (arith, c.commit.ensures.survives.clean) in
    let last_open : IsTrue end.is_open = subst (λ h. IsTrue (state g.S.Store h).is_open) (sym same) still in
    rw c.transaction-tx.ensures.begun at (open_by_commit first last end c.commit.result (c.loop-step.invariant.2 early).0 (on_ok c.commit.result (λ it. it.1.was_open) (c.commit.ensures.ok late)) (c.commit.ensures.err late) last_open)

pub returns-clause-caused : goal.returns-clause-caused
returns-clause-caused g c clean =
    let old = state g.S.Store c.args.conn.now in
    let first = state g.S.Store c.transaction-tx.result.conn.now in
    let last = state g.S.Store c.loop-step.tx.conn.now in
    let same : c.commit.new.self.0 ≡ c.conn-2-1.given.0 = search rules in
    let late : HasCleanDisk (state g.S.Store c.commit.new.self.0) = search rules in
    let early : HasCleanDisk last = omega (arith, c.commit.ensures.survives.clean) in
    let ran = (c.loop-step.invariant.2 early).1 in
    let Refuses = RefusesSteps (map told c.args.steps.now) old.now in
    subst (λ h. IfErr c.commit.result (λ why. IsOfStore why → HasCauseIn old (state g.S.Store h) ⊎ Refuses)) same
    (rw c.transaction-tx.ensures.begun at (commit_caused Refuses first last (state g.S.Store c.commit.new.self.0) c.commit.result c.loop-step.invariant.1 early c.commit.ensures.survives.counts ran.mode (c.commit.ensures.err late)))

pub returns-clause-crash : goal.returns-clause-crash
returns-clause-crash g c =
    let old = state g.S.Store c.args.conn.now in
    let first = state g.S.Store c.transaction-tx.result.conn.now in
    let last = state g.S.Store c.loop-step.tx.conn.now in
    let steps = map told c.args.steps.now in
    let whole : take c.loop-step.step-index c.args.steps.now ≡ c.args.steps.now = take_all c.loop-step.step-index c.args.steps.now c.loop-step-test.false in
    let all = λ (early : HasCleanDisk last). rw c.transaction-tx.ensures.begun at (subst (λ ss. RunSteps (map told ss) first.now last.now) whole (c.loop-step.invariant.2 early).1.ran) in
    let inside = rw c.transaction-tx.ensures.begun at c.loop-step.invariant.1 in
    let same : c.commit.new.self.0 ≡ c.conn-2-1.given.0 = search rules in
    subst (λ h. Survives old (state g.S.Store h) (LeavesSteps steps old.now)) same
    (survives_then old last (state g.S.Store c.commit.new.self.0) _ _ (LeavesSteps steps old.now) (λ _ db none. absurd none)
    (λ clean db is. (last.now, all (omega (arith, c.commit.ensures.survives.clean)), is)) (survives_begin g.S.Store c.args.conn.now last _ inside) c.commit.ensures.survives)
