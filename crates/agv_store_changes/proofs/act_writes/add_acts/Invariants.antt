use Rattle.std.proofs.Common.{◌≤◌, IsTrue, length, take}
use Rattle.agv_store_rows.specs.TripRows.{act_rows_from}
use Rattle.agv_store_schema.specs.DeskRows.{Makes, with_rows}
use Rattle.agv_store_rows.specs.Rows.{rows_of_acts}
use Rattle.agv_store_schema.specs.declared.table_name.TableName.TheVariants as the
use Rattle.agv_store_sql.proofs.Refusing.{RunInside}
use Rattle.agv_store_sql.specs.WritesInside.{WritesInside}
use Rattle.agv_store_changes.proofs.ActInsertions.{inserted}
use Rattle.agv_store_changes.proofs.act_writes.add_acts.Given as goal

abbrev pub invariant-loop-n : goal.invariant-loop-n
invariant-loop-n g l =
    WritesInside g.S.Store l.initial.tx l.tx (λ before after. IsTrue before.in_transaction → Makes (with_rows the.Act (rows_of_acts (act_rows_from l.order 0 (take l.n l.acts)))) before after)
    × (length l.acts ≤ 4294967296 → RunInside g.S.Store l.initial.tx l.tx (inserted l.order 0 (take l.n l.acts)))
