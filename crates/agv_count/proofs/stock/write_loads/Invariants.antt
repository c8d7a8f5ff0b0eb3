use Rattle.std.proofs.Common.{◌≡◌, ◌++◌, string_bytes, take}
use Rattle.agv_count.specs.Reports.{listed}
use Rattle.agv_count.proofs.stock.write_loads.Given as goal

abbrev pub invariant-loop-load : goal.invariant-loop-load
invariant-loop-load l = string_bytes l.out ≡ string_bytes l.initial.out ++ listed (take l.load-index l.loads)
