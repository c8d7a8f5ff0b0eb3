use Rattle.std.proofs.Common.{◌≡◌, ◌++◌}
use Rattle.std.specs.FinMap as finite
use Rattle.agv_store_floor.proofs.report_lists.holds_of.Given as goal

-- what is listed so far, with what is left, is all
abbrev pub invariant-loop-thing : goal.invariant-loop-thing
invariant-loop-thing l = l.holds.items ++ l.thing-iterator ≡ finite.entries l.held.table
