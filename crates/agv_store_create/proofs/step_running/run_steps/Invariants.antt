use Rattle.std.proofs.Common.{◌≡◌, map, take}
use Rattle.sqlite.specs.State.{HasCleanDisk, KeepsCommit, Survives}
use Rattle.sqlite.specs.Held.{state}
use Rattle.agv_store_create.specs.TextsRun.{RunsSteps}
use Rattle.agv_store_create.proofs.step_running.run_steps.Given as goal

abbrev pub invariant-loop-step : goal.invariant-loop-step
invariant-loop-step g l =
    let old = state g.S.Store l.initial.tx.conn.now in
    let now = state g.S.Store l.tx.conn.now in
    (l.tx.conn.ghost_name ≡ l.initial.tx.conn.ghost_name) × Survives old now (λ _. ⊥) × (HasCleanDisk now → KeepsCommit old now × RunsSteps (map (λ step. (step.0, step.1.now)) (take l.step-index l.steps)) old now)
