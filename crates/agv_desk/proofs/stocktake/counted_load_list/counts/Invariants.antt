use Rattle.std.proofs.Common.{◌≡◌, ℕ, List, take, unwrap_or}
use Rattle.std.specs.FinMap as map
use Rattle.agv_desk.specs.CountParts.{count_at}
use Rattle.agv_desk.proofs.stocktake.counted_load_list.counts.Given as goal

abbrev pub invariant-loop-one : goal.invariant-loop-one
invariant-loop-one l = (station : List ℕ) → unwrap_or (map.get l.counts station) 0 ≡ count_at (take l.one-index l.counted_list) station
