use Rattle.std.proofs.Common.{◌≡◌, ◌++◌}
use Rattle.std.specs.FinMap as finite
use Rattle.std.specs.Map.{keys_of}
use Rattle.agv_store_floor.proofs.report_lists.keys_of.Given as goal

-- the vehicles so far, and those of what is left, are all
abbrev pub invariant-loop-key : goal.invariant-loop-key
invariant-loop-key l = l.keys.items ++ keys_of l.key-iterator ≡ keys_of (finite.entries l.table)
