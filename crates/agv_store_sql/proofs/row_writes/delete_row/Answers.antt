use Rattle.std.proofs.Common.{rules}
use Rattle.sqlite.specs.Values.{bound}
use Rattle.agv_store_sql.proofs.DeskStatements.{deletes_row}
use Rattle.agv_store_sql.proofs.row_writes.delete_row.Goals as goal

pub returns : goal.returns
returns g c = record {
  same_reference = c.execute.ensures.same_reference;
  survives = c.execute.ensures.survives;
  kept = search rules;
  made = λ clean. deletes_row c.args.table c.requires c.deletion.result.now c.deletion.ensures (bound c.args.key.now) _ _ c.execute.result (λ idle. (c.execute.ensures.ended idle).0, c.execute.ensures.runs clean);
}
