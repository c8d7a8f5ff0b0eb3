use Rattle.std.proofs.Common.{◌≡◌, drop}
use Rattle.std.specs.FinMap as map
use Rattle.agv_desk.specs.CountParts.{settled}
use Rattle.agv_desk.proofs.stocktake.moves.Count.settle_standing.Given as goal

abbrev pub invariant-loop-load : goal.invariant-loop-load
invariant-loop-load l =
    settled (map.contains_key l.self.stations) l.self.found l.moves (drop l.load-index l.standing) ≡ settled (map.contains_key l.self.stations) l.self.found l.initial.moves l.standing
