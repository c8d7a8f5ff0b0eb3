use Rattle.std.proofs.Common.{◌≡◌, ◌++◌, drop, map}
use Rattle.agv_desk.specs.LayoutSteps.{row_written}
use Rattle.agv_desk.proofs.layouts.layout_changes.Given as goal

abbrev pub invariant-loop-row : goal.invariant-loop-row
invariant-loop-row l = l.changes.items ++ map row_written (drop l.row-index l.row-items) ≡ map row_written l.row-items
