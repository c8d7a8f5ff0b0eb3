use Rattle.std.proofs.Common.{◌≡◌, ◌<◌, length, IsTrue, OnOk, sym, subst, arith, rules}
use Rattle.sqlite.specs.State.{HasCleanDisk, IsRolledBack, Survives}
use Rattle.sqlite.specs.Held.{state}
use Rattle.sqlite.proofs.StateLemmas.{survives_then}
use Rattle.sqlite.proofs.Callers.{survives_begin}
use Rattle.agv_store_changes.specs.ChangesMade.{LeavesChanges, MakesChanges}
use Rattle.agv_store_sql.proofs.WritesThen.{writes_none, writes_then}
use Rattle.agv_store_changes.proofs.ChangesRun.{all_made, makes_next, makes_none}
use Rattle.agv_store_schema.proofs.StatesKept.{keeps_then, on_err, on_ok, open_by_commit, open_by_undoing, undone_to}
use Rattle.agv_store_changes.proofs.change_running.run_changes.Goals as goal

pub loop-change-init : goal.loop-change-init
loop-change-init g c = let first = c.transaction-tx.result in writes_none g.S.Store first (makes_none (state g.S.Store first.conn.now) (search rules))

pub loop-change-preserved : goal.loop-change-preserved
loop-change-preserved g c =
    let low : c.loop-change.change-index < length c.args.changes.now = search rules in
    writes_then g.S.Store c.loop-change.invariant c.in_ok-write_change.ensures
    (λ _ before makes. makes_next c.args.changes.now c.loop-change.change-index c.change-item.result _ _ _ low c.change-item.is before makes)

pub returns-in_err-write_change-clause-undone : goal.returns-in_err-write_change-clause-undone
returns-in_err-write_change-clause-undone g c clean still =
    let first = state g.S.Store c.transaction-tx.result.conn.now in
    let was = state g.S.Store c.loop-change.tx.conn.now in
    let mid = state g.S.Store c.write_change.new.tx.conn.now in
    let end = state g.S.Store c.conn-1.given.0 in
    let same : c.drop-tx.new.self.0 ≡ c.conn-1.given.0 = search rules in
    let late : HasCleanDisk (state g.S.Store c.drop-tx.new.self.0) = search rules in
    let back : IsRolledBack mid end = subst (λ h. IsRolledBack mid (state g.S.Store h)) same (c.drop-tx.ensures.undone late) in
    let before : HasCleanDisk mid = omega (arith, c.drop-tx.ensures.survives.clean) in
    let early : HasCleanDisk was = omega (arith, c.write_change.ensures.survives.clean) in
    let kept = keeps_then first was mid (c.loop-change.invariant.kept early) (c.write_change.ensures.kept before) in
    on_err c.from_residual.result (rw c.transaction-tx.ensures.begun at (undone_to first mid end kept back still))

pub returns-in_err-write_change-clause-was_open : goal.returns-in_err-write_change-clause-was_open
returns-in_err-write_change-clause-was_open g c clean still =
    let first = state g.S.Store c.transaction-tx.result.conn.now in
    let was = state g.S.Store c.loop-change.tx.conn.now in
    let mid = state g.S.Store c.write_change.new.tx.conn.now in
    let end = state g.S.Store c.conn-1.given.0 in
    let same : c.drop-tx.new.self.0 ≡ c.conn-1.given.0 = search rules in
    let late : HasCleanDisk (state g.S.Store c.drop-tx.new.self.0) = search rules in
    let back : IsRolledBack mid end = subst (λ h. IsRolledBack mid (state g.S.Store h)) same (c.drop-tx.ensures.undone late) in
    let before : HasCleanDisk mid = omega (arith, c.drop-tx.ensures.survives.clean) in
    let early : HasCleanDisk was = omega (arith, c.write_change.ensures.survives.clean) in
    let kept = keeps_then first was mid (c.loop-change.invariant.kept early) (c.write_change.ensures.kept before) in
    rw c.transaction-tx.ensures.begun at (open_by_undoing first mid end kept back still)

pub returns-clause-made : goal.returns-clause-made
returns-clause-made g c clean =
    let old = state g.S.Store c.args.conn.now in
    let first = state g.S.Store c.transaction-tx.result.conn.now in
    let last = state g.S.Store c.loop-change.tx.conn.now in
    let same : c.commit.new.self.0 ≡ c.conn-2-1.given.0 = search rules in
    let late : HasCleanDisk (state g.S.Store c.commit.new.self.0) = search rules in
    let early : HasCleanDisk last = omega (arith, c.commit.ensures.survives.clean) in
    let changes = c.args.changes.now in
    let all : MakesChanges changes old.now last.now = rw c.transaction-tx.ensures.begun at (all_made changes c.loop-change.change-index first last c.loop-change-test.false (c.loop-change.invariant.made early)) in
    subst (λ h. OnOk c.commit.result (MakesChanges changes old.now (state g.S.Store h).committed)) same
    (on_ok c.commit.result (λ it. subst (MakesChanges changes old.now) (sym it.1.committed_is) all) (c.commit.ensures.ok late))

pub returns-clause-worlds : goal.returns-clause-worlds
returns-clause-worlds g c clean =
    let old = state g.S.Store c.args.conn.now in
    on_ok c.commit.result (c.changes_make_the_next_world.ensures c.args.changes.now old.now _) (returns-clause-made g c clean)

pub returns-clause-open : goal.returns-clause-open
returns-clause-open g c clean =
    let old = state g.S.Store c.args.conn.now in
    let first = state g.S.Store c.transaction-tx.result.conn.now in
    let last = state g.S.Store c.loop-change.tx.conn.now in
    let same : c.commit.new.self.0 ≡ c.conn-2-1.given.0 = search rules in
    let late : HasCleanDisk (state g.S.Store c.commit.new.self.0) = search rules in
    let early : HasCleanDisk last = omega (arith, c.commit.ensures.survives.clean) in
    let kept = rw c.transaction-tx.ensures.begun at (c.loop-change.invariant.kept early) in
    subst (λ h. OnOk c.commit.result (IsTrue old.is_open × IsTrue (state g.S.Store h).is_open)) same
    (on_ok c.commit.result (λ it. (kept.was_open it.1.was_open, it.1.is_open)) (c.commit.ensures.ok late))

pub returns-clause-was_open : goal.returns-clause-was_open
returns-clause-was_open g c clean still =
    let first = state g.S.Store c.transaction-tx.result.conn.now in
    let last = state g.S.Store c.loop-change.tx.conn.now in
    let end = state g.S.Store c.commit.new.self.0 in
    let same : c.commit.new.self.0 ≡ c.conn-2-1.given.0 = search rules in
    let late : HasCleanDisk end = search rules in
    let early : HasCleanDisk last = omega (arith, c.commit.ensures.survives.clean) in
    let last_open : IsTrue end.is_open = subst (λ h. IsTrue (state g.S.Store h).is_open) (sym same) still in
    rw c.transaction-tx.ensures.begun at (open_by_commit first last end c.commit.result (c.loop-change.invariant.kept early) (on_ok c.commit.result (λ it. it.1.was_open) (c.commit.ensures.ok late)) (c.commit.ensures.err late) last_open)

pub returns-clause-crash : goal.returns-clause-crash
returns-clause-crash g c =
    let old = state g.S.Store c.args.conn.now in
    let first = state g.S.Store c.transaction-tx.result.conn.now in
    let last = state g.S.Store c.loop-change.tx.conn.now in
    let changes = c.args.changes.now in
    let all = λ (early : HasCleanDisk last). rw c.transaction-tx.ensures.begun at (all_made changes c.loop-change.change-index first last c.loop-change-test.false (c.loop-change.invariant.made early)) in
    let inside = rw c.transaction-tx.ensures.begun at c.loop-change.invariant.survives in
    let same : c.commit.new.self.0 ≡ c.conn-2-1.given.0 = search rules in
    subst (λ h. Survives old (state g.S.Store h) (LeavesChanges changes old.now)) same
    (survives_then old last (state g.S.Store c.commit.new.self.0) _ _ (LeavesChanges changes old.now) (λ _ db none. absurd none)
    (λ clean db is. (last.now, all (omega (arith, c.commit.ensures.survives.clean)), is)) (survives_begin g.S.Store c.args.conn.now last _ inside) c.commit.ensures.survives)
