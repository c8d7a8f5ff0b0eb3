use Rattle.std.proofs.Common.{◌≡◌, ◌++◌, drop}
use Rattle.agv_desk.specs.CountParts.{standing_at}
use Rattle.agv_desk.proofs.stocktake.standing.note_loads.Given as goal

abbrev pub invariant-loop-load : goal.invariant-loop-load
invariant-loop-load l = l.standing.items ++ standing_at l.station (drop l.load-index l.loads) ≡ l.initial.standing.items ++ standing_at l.station l.loads
