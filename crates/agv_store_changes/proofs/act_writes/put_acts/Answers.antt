use Rattle.std.proofs.Common.{◌+◌, IsTrue, sym, subst}
use Rattle.sqlite.specs.Held.{state}
use Rattle.sqlite.specs.declared.transaction.Transaction.{Transaction}
use Rattle.agv_store_changes.specs.ActRows.{AreOfOrder, acts_listed}
use Rattle.agv_store_schema.specs.DeskRows.{Answers, Makes}
use Rattle.agv_store_sql.specs.WritesInside.{WritesInside}
use Rattle.agv_store_sql.proofs.WritesThen.{retold, writes_none, writes_then}
use Rattle.agv_store_changes.proofs.ActsPut.{puts_all, puts_next, puts_none, puts_same, so_far}
use Rattle.agv_store_changes.proofs.act_writes.put_acts.Goals as goal
use Rattle.agv_store_changes.proofs.act_writes.put_acts.Goals.{then-not-is_act+in_ok-put_act, else-not-is_act}

pub loop-n-init : goal.loop-n-init
loop-n-init g c = writes_none g.S.Store c.args.tx.now (λ inside are shown. puts_none c.args.order.now c.args.acts.now c.args.rows.now _ inside shown)

pub loop-n-preserved : goal.loop-n-preserved
loop-n-preserved g c =
    let first = state g.S.Store c.args.tx.now.conn.now in
    let was = state g.S.Store c.loop-n.tx.conn.now in
    let n = c.loop-n.n in
    let order = c.args.order.now in
    let acts = c.args.acts.now in
    let rows = c.args.rows.now in
    let act = c.index-acts-n.result in
    let goes_on = λ (tx : Transaction g.row.S.Denot).
    WritesInside g.S.Store c.args.tx.now tx (λ before after. IsTrue before.in_transaction → AreOfOrder order 0 rows → Answers (acts_listed order) before rows → Makes (so_far order acts rows (n + 1)) before after) in
    elim c.if-not-is_act.branch [
      | then-not-is_act+in_ok-put_act w ↦
          subst goes_on (sym w.tx-is) (writes_then g.S.Store c.loop-n.invariant w.in_ok-put_act.ensures (λ _ earlier puts inside are shown.
          puts_next order acts rows n act first was _ c.requires are c.loop-n-test.true c.index-acts-n.is (earlier inside are shown) puts))
      | else-not-is_act w ↦
          subst goes_on (sym w.tx-is) (retold g.S.Store c.loop-n.invariant (λ _ earlier inside are shown.
          puts_same order acts rows n act c.index-rows-n.result first was c.requires c.loop-n-test.true c.index-acts-n.is c.index-rows-n.is (c.is_act.ensures w.if-not-is_act.false) (earlier inside are shown)))
    ]

pub returns : goal.returns
returns g c = retold g.S.Store c.loop-n.invariant (λ _ puts inside are shown. puts_all c.args.order.now c.args.acts.now c.args.rows.now c.loop-n.n _ _ c.requires c.loop-n-test.false (puts inside are shown))
