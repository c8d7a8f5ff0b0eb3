use Rattle.std.proofs.Common.{◌≡◌, ◌++◌, drop, filter_map}
use Rattle.agv_desk.specs.CountParts.{unknown_one}
use Rattle.agv_desk.proofs.stocktake.counted_load_list.unknown.Given as goal

abbrev pub invariant-loop-one : goal.invariant-loop-one
invariant-loop-one l = l.unknown.items ++ filter_map unknown_one (drop l.one-index l.counted_list) ≡ filter_map unknown_one l.counted_list
