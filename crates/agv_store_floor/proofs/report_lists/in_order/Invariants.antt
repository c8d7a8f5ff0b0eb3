use Rattle.std.proofs.Common.{◌≡◌, drop}
use Rattle.std.specs.FinMap as finite
use Rattle.agv_store_floor.specs.ReportLists.{entered}
use Rattle.agv_store_floor.proofs.report_lists.in_order.Given as goal

-- what is written so far, with the rest, is all
abbrev pub invariant-loop-thing : goal.invariant-loop-thing
invariant-loop-thing l = entered (finite.from_entries l.holders.entries) (drop l.thing-index l.pairs) ≡ entered finite.empty l.pairs
