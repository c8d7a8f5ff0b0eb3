use Rattle.std.proofs.Common.{take}
use Rattle.agv_layout.specs.Rows.{AreNamed}
use Rattle.agv_desk.proofs.call.names_law.Given as goal

abbrev pub invariant-loop-row : goal.invariant-loop-row
invariant-loop-row l = AreNamed (take l.row-index l.rows)
