use Rattle.std.proofs.Common.{rules}
use Rattle.sqlite.specs.Held.{state}
use Rattle.sqlite.specs.Values.{bound}
use Rattle.agv_store_sql.proofs.UpdateMeanings.{updates_counted, updates_row}
use Rattle.agv_store_sql.proofs.row_updates.update_row.Goals as goal

pub returns-clause-writes : goal.returns-clause-writes
returns-clause-writes g c = record {
  same_reference = c.execute.ensures.same_reference;
  survives = c.execute.ensures.survives;
  kept = search rules;
  made = λ clean fit. updates_row c.args.table c.requires c.update.result.now c.update.ensures (bound c.args.row.now) fit _ _ c.execute.result (λ idle. (c.execute.ensures.ended idle).0, c.execute.ensures.runs clean);
}

pub returns-clause-counted : goal.returns-clause-counted
returns-clause-counted g c clean fit =
    updates_counted c.args.table c.requires c.update.result.now c.update.ensures (bound c.args.row.now) fit (state g.S.Store c.args.tx.now.conn.now) (state g.S.Store c.execute.new.self.conn.now) c.execute.result
    (λ idle. (c.execute.ensures.ended idle).0, c.execute.ensures.runs clean)
