use Rattle.std.proofs.Common.{IsTrue}
use Rattle.agv_store_changes.specs.ActRows.{AreOfOrder, acts_listed}
use Rattle.agv_store_schema.specs.DeskRows.{Answers, Makes}
use Rattle.agv_store_sql.specs.WritesInside.{WritesInside}
use Rattle.agv_store_changes.proofs.ActsPut.{so_far}
use Rattle.agv_store_changes.proofs.act_writes.put_acts.Given as goal

abbrev pub invariant-loop-n : goal.invariant-loop-n
invariant-loop-n g l =
    WritesInside g.S.Store l.initial.tx l.tx (λ before after. IsTrue before.in_transaction → AreOfOrder l.order 0 l.rows → Answers (acts_listed l.order) before l.rows → Makes (so_far l.order l.acts l.rows l.n) before after)
