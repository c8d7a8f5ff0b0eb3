use Rattle.std.proofs.Common.{◌≡◌, drop}
use Rattle.std.specs.FinMap as map
use Rattle.agv_desk.specs.CountParts.{recorded, settled}
use Rattle.agv_desk.proofs.stocktake.moves.Count.settle_found.Given as goal

abbrev pub invariant-loop-one : goal.invariant-loop-one
invariant-loop-one l =
    settled (map.contains_key l.self.stations) l.self.found l.moves (recorded (drop l.one-index l.counted_list)) ≡ settled (map.contains_key l.self.stations) l.self.found l.initial.moves (recorded l.counted_list)
