use Rattle.std.proofs.Common.{[], Err, drop, take, refl, rules, arith}
use Rattle.sqlite.specs.State.{HasCleanDisk}
use Rattle.sqlite.specs.Held.{state}
use Rattle.sqlite.proofs.StateLemmas.{survives_then}
use Rattle.agv_store_schema.specs.Connections.{HasStorageCause}
use Rattle.agv_store_create.specs.Refusals.{RefusesSteps}
use Rattle.agv_store_migrate.specs.MoveStatements.{adding_steps}
use Rattle.agv_store_migrate.proofs.AddingSteps.{runs_then, three_run}
use Rattle.agv_store_migrate.proofs.MovingRun.{passed_on, text_caused}
use Rattle.agv_store_migrate.proofs.table_moving.add_tables.Goals as goal

pub returns-clause-ran : goal.returns-clause-ran
returns-clause-ran g c clean =
    let one = state g.S.Store c.run_text.new.tx.conn.now in
    let two = state g.S.Store c.run_text-2.new.tx.conn.now in
    let early : HasCleanDisk two = omega (arith, c.run_text-3.ensures.survives.clean) in
    let earlier : HasCleanDisk one = omega (arith, c.run_text-2.ensures.survives.clean) in
    three_run _ _ _ (state g.S.Store c.args.tx.now.conn.now) one two (state g.S.Store c.run_text-3.new.tx.conn.now) c.run_text-3.result
    (c.in_ok-run_text.ensures.ran earlier) (c.in_ok-run_text-2.ensures.ran early) (c.run_text-3.ensures.ran clean)

pub returns-in_err-run_text-clause-caused : goal.returns-in_err-run_text-clause-caused
returns-in_err-run_text-clause-caused g c clean inside =
    let first = c.args.tx.now.conn.now in
    passed_on (HasStorageCause g.S.Store first c.run_text.new.tx.conn.now) (RefusesSteps adding_steps (state g.S.Store first).now) c.from_residual.result c.in_err-run_text.field-0.0 c.from_residual.ensures.1
    (text_caused g.S.Store first first c.run_text.new.tx.conn.now [] (drop 1 adding_steps) _ (Err c.in_err-run_text.field-0.0) (search rules) c.run_text.ensures.survives clean refl (c.in_err-run_text.ensures.caused clean inside))

pub returns-in_err-run_text-2-clause-caused : goal.returns-in_err-run_text-2-clause-caused
returns-in_err-run_text-2-clause-caused g c clean inside =
    let ran = c.in_ok-run_text.ensures.ran (omega (arith, c.run_text-2.ensures.survives.clean, clean)) in
    passed_on (HasStorageCause g.S.Store c.args.tx.now.conn.now c.run_text-2.new.tx.conn.now) (RefusesSteps adding_steps (state g.S.Store c.args.tx.now.conn.now).now) c.from_residual-in_err-run_text-2.result c.in_err-run_text-2.field-0.0 c.from_residual-in_err-run_text-2.ensures.1
    (text_caused g.S.Store c.args.tx.now.conn.now c.run_text.new.tx.conn.now c.run_text-2.new.tx.conn.now (take 1 adding_steps) (drop 2 adding_steps) _ (Err c.in_err-run_text-2.field-0.0) c.run_text.ensures.survives c.run_text-2.ensures.survives clean ran.ran
    (c.in_err-run_text-2.ensures.caused clean ran.mode))

pub returns-clause-caused : goal.returns-clause-caused
returns-clause-caused g c clean inside =
    let one = state g.S.Store c.run_text.new.tx.conn.now in
    let two = state g.S.Store c.run_text-2.new.tx.conn.now in
    let early : HasCleanDisk two = omega (arith, c.run_text-3.ensures.survives.clean) in
    let earlier : HasCleanDisk one = omega (arith, c.run_text-2.ensures.survives.clean) in
    let ran = runs_then (take 1 adding_steps) (take 1 (drop 1 adding_steps)) (state g.S.Store c.args.tx.now.conn.now) one two (c.in_ok-run_text.ensures.ran earlier) (c.in_ok-run_text-2.ensures.ran early) in
    let so_far = survives_then (state g.S.Store c.args.tx.now.conn.now) one two _ _ (λ _. ⊥) (λ _ db none. none) (λ _ db none. none) c.run_text.ensures.survives c.run_text-2.ensures.survives in
    text_caused g.S.Store c.args.tx.now.conn.now c.run_text-2.new.tx.conn.now c.run_text-3.new.tx.conn.now (take 2 adding_steps) [] _ c.run_text-3.result so_far c.run_text-3.ensures.survives clean ran.ran (c.run_text-3.ensures.caused clean ran.mode)
