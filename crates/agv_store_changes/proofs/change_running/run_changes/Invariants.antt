use Rattle.std.proofs.Common.{take}
use Rattle.agv_store_schema.specs.DeskRows.{Makes}
use Rattle.agv_store_rows.specs.Rows.{listed_all}
use Rattle.agv_store_sql.specs.WritesInside.{WritesInside}
use Rattle.agv_store_changes.proofs.change_running.run_changes.Given as goal

abbrev pub invariant-loop-change : goal.invariant-loop-change
invariant-loop-change g l = WritesInside g.S.Store l.initial.tx l.tx (Makes (listed_all (take l.change-index l.changes)))
