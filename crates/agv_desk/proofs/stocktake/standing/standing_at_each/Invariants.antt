use Rattle.std.proofs.Common.{◌≡◌, ◌++◌, drop}
use Rattle.agv_world_core.specs.Asks.{Answers}
use Rattle.agv_desk.specs.CountParts.{standing}
use Rattle.agv_desk.proofs.stocktake.standing.standing_at_each.Given as goal

abbrev pub invariant-loop-station : goal.invariant-loop-station
invariant-loop-station g l =
    let facts = g.F.Floor.facts in
    let world = facts.world l.initial.floor in
    Answers facts l.initial.floor l.floor (l.standing.items ++ standing world (drop l.station-index l.stations) ≡ standing world l.stations)
