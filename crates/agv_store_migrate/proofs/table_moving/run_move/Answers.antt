use Rattle.std.proofs.Common.{◌≡◌, ◌≤◌, ◌⊎◌, IfErr, OnOk, sym, subst, arith, rules}
use Rattle.sqlite.specs.State.{HasCleanDisk, Survives}
use Rattle.sqlite.specs.Held.{state}
use Rattle.sqlite.proofs.StateLemmas.{survives_then}
use Rattle.sqlite.proofs.Callers.{survives_begin}
use Rattle.agv_store_schema.specs.Connections.{HasStorageCause}
use Rattle.agv_store_schema.specs.Errors.{IsOfStore}
use Rattle.agv_store_create.proofs.Causes.{HasCauseIn}
use Rattle.agv_store_create.proofs.StepsRefused.{commit_caused}
use Rattle.agv_store_migrate.specs.MoveStatements.{RefusesMove}
use Rattle.agv_store_migrate.specs.Moved.{CanBeAdded, LeavesMoved, MovesTables}
use Rattle.agv_store_migrate.proofs.MovedWorld.{moved}
use Rattle.agv_store_migrate.proofs.MovingEach.{was_clean}
use Rattle.agv_store_migrate.proofs.MovingRun.{not_added, passed_on, rows_caused, undone_caused}
use Rattle.agv_store_schema.proofs.StatesKept.{on_ok}
use Rattle.agv_store_migrate.proofs.table_moving.run_move.Goals as goal

pub returns-clause-made : goal.returns-clause-made
returns-clause-made g c clean =
    let tables = c.args.tables.now in
    let old = state g.S.Store c.args.conn.now in
    let first = state g.S.Store c.transaction-tx.result.conn.now in
    let mid = state g.S.Store c.add_tables.new.tx.conn.now in
    let last = state g.S.Store c.move_rows.new.tx.conn.now in
    let same : c.commit.new.self.0 ≡ c.conn-2-1.given.0 = search rules in
    let late : HasCleanDisk (state g.S.Store c.commit.new.self.0) = search rules in
    let early : HasCleanDisk last = omega (arith, c.commit.ensures.survives.clean) in
    let earlier : HasCleanDisk mid = omega (arith, c.move_rows.ensures.made.survives.clean) in
    let can : CanBeAdded first.now.schema = rw c.transaction-tx.ensures.begun c.requires.possible in
    let all : MovesTables tables old.now last.now = rw c.transaction-tx.ensures.begun at
    (moved c.rows_have_keys.ensures.journeys_listed c.rows_have_keys.ensures.acts_listed tables first mid last can (c.in_ok-add_tables.ensures.ran earlier) (c.in_ok-move_rows.ensures.made.made early)) in
    subst (λ h. OnOk c.commit.result (MovesTables tables old.now (state g.S.Store h).committed)) same
    (on_ok c.commit.result (λ it. subst (MovesTables tables old.now) (sym it.1.committed_is) all) (c.commit.ensures.ok late))

pub returns-clause-crash : goal.returns-clause-crash
returns-clause-crash g c =
    let tables = c.args.tables.now in
    let old = state g.S.Store c.args.conn.now in
    let first = state g.S.Store c.transaction-tx.result.conn.now in
    let mid = state g.S.Store c.add_tables.new.tx.conn.now in
    let last = state g.S.Store c.move_rows.new.tx.conn.now in
    let can : CanBeAdded first.now.schema = rw c.transaction-tx.ensures.begun c.requires.possible in
    let all = λ (early : HasCleanDisk last).
    let earlier = was_clean mid last _ c.move_rows.ensures.made.survives early in
    rw c.transaction-tx.ensures.begun at
    (moved c.rows_have_keys.ensures.journeys_listed c.rows_have_keys.ensures.acts_listed tables first mid last can (c.in_ok-add_tables.ensures.ran earlier) (c.in_ok-move_rows.ensures.made.made early)) in
    let so_far : Survives first last (λ _. ⊥) = survives_then first mid last _ _ (λ _. ⊥) (λ _ db none. none) (λ _ db none. none) c.add_tables.ensures.survives c.move_rows.ensures.made.survives in
    let inside = rw c.transaction-tx.ensures.begun at so_far in
    let same : c.commit.new.self.0 ≡ c.conn-2-1.given.0 = search rules in
    subst (λ h. Survives old (state g.S.Store h) (LeavesMoved tables old.now)) same
    (survives_then old last (state g.S.Store c.commit.new.self.0) _ _ (LeavesMoved tables old.now) (λ _ db none. absurd none)
    (λ clean db is. (last.now, all (was_clean last (state g.S.Store c.commit.new.self.0) _ c.commit.ensures.survives clean), is)) (survives_begin g.S.Store c.args.conn.now last _ inside) c.commit.ensures.survives)

pub returns-in_err-add_tables-clause-caused : goal.returns-in_err-add_tables-clause-caused
returns-in_err-add_tables-clause-caused g c clean few =
    let first = state g.S.Store c.transaction-tx.result.conn.now in
    let mid = state g.S.Store c.add_tables.new.tx.conn.now in
    let end = state g.S.Store c.conn-1.given.0 in
    let same : c.drop-tx.new.self.0 ≡ c.conn-1.given.0 = search rules in
    let late : HasCleanDisk (state g.S.Store c.drop-tx.new.self.0) = search rules in
    let before : HasCleanDisk mid = omega (arith, c.drop-tx.ensures.survives.clean) in
    let after : mid.faults ≤ end.faults = subst (λ h. mid.faults ≤ (state g.S.Store h).faults) same c.drop-tx.ensures.survives.counts in
    passed_on (HasStorageCause g.S.Store c.args.conn.now c.conn-1.given.0) (RefusesMove c.args.tables.now (state g.S.Store c.args.conn.now).now) c.from_residual.result c.in_err-add_tables.field-0.0 c.from_residual.ensures.1 (λ of.
    rw c.transaction-tx.ensures.begun at (undone_caused first mid end (RefusesMove c.args.tables.now first.now) after (not_added c.args.tables.now first.now (c.in_err-add_tables.ensures.caused before (search rules) of))))

pub returns-in_err-move_rows-clause-caused : goal.returns-in_err-move_rows-clause-caused
returns-in_err-move_rows-clause-caused g c clean few =
    let first = state g.S.Store c.transaction-tx.result.conn.now in
    let mid = state g.S.Store c.add_tables.new.tx.conn.now in
    let last = state g.S.Store c.move_rows.new.tx.conn.now in
    let end = state g.S.Store c.conn-in_err-move_rows-1.given.0 in
    let same : c.drop-tx-in_err-move_rows.new.self.0 ≡ c.conn-in_err-move_rows-1.given.0 = search rules in
    let late : HasCleanDisk (state g.S.Store c.drop-tx-in_err-move_rows.new.self.0) = search rules in
    let before : HasCleanDisk last = omega (arith, c.drop-tx-in_err-move_rows.ensures.survives.clean) in
    let earlier : HasCleanDisk mid = omega (arith, c.move_rows.ensures.made.survives.clean) in
    let after : last.faults ≤ end.faults = subst (λ h. last.faults ≤ (state g.S.Store h).faults) same c.drop-tx-in_err-move_rows.ensures.survives.counts in
    let ran = c.in_ok-add_tables.ensures.ran earlier in
    passed_on (HasStorageCause g.S.Store c.args.conn.now c.conn-in_err-move_rows-1.given.0) (RefusesMove c.args.tables.now (state g.S.Store c.args.conn.now).now) c.from_residual-in_err-move_rows.result c.in_err-move_rows.field-0.0 c.from_residual-in_err-move_rows.ensures.1 (λ of.
    rw c.transaction-tx.ensures.begun at (undone_caused first last end (RefusesMove c.args.tables.now first.now) after
    (rows_caused g.S.Store c.transaction-tx.result.conn.now c.add_tables.new.tx.conn.now c.move_rows.new.tx.conn.now c.args.tables.now c.add_tables.ensures.survives c.move_rows.ensures.made.survives before ran.ran
    (c.in_err-move_rows.ensures.ends few before ran.mode of))))

pub returns-clause-caused : goal.returns-clause-caused
returns-clause-caused g c clean few =
    let old = state g.S.Store c.args.conn.now in
    let first = state g.S.Store c.transaction-tx.result.conn.now in
    let mid = state g.S.Store c.add_tables.new.tx.conn.now in
    let last = state g.S.Store c.move_rows.new.tx.conn.now in
    let same : c.commit.new.self.0 ≡ c.conn-2-1.given.0 = search rules in
    let late : HasCleanDisk (state g.S.Store c.commit.new.self.0) = search rules in
    let early : HasCleanDisk last = omega (arith, c.commit.ensures.survives.clean) in
    let so_far : Survives first last (λ _. ⊥) = survives_then first mid last _ _ (λ _. ⊥) (λ _ db none. none) (λ _ db none. none) c.add_tables.ensures.survives c.move_rows.ensures.made.survives in
    let Refuses = RefusesMove c.args.tables.now old.now in
    subst (λ h. IfErr c.commit.result (λ why. IsOfStore why → HasCauseIn old (state g.S.Store h) ⊎ Refuses)) same
    (rw c.transaction-tx.ensures.begun at (commit_caused Refuses first last (state g.S.Store c.commit.new.self.0) c.commit.result so_far early c.commit.ensures.survives.counts (c.in_ok-move_rows.ensures.made.made early).mode
    (c.commit.ensures.err late)))
