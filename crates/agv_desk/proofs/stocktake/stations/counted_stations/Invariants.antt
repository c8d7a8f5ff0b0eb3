use Rattle.std.proofs.Common.{◌≡◌, drop}
use Rattle.std.specs.FinMap as map
use Rattle.agv_world_core.specs.Asks.{Answers}
use Rattle.agv_desk.proofs.stocktakes.CountedStations.{gathered}
use Rattle.agv_desk.proofs.stocktake.stations.counted_stations.Given as goal

abbrev pub invariant-loop-station : goal.invariant-loop-station
invariant-loop-station g l =
    let facts = g.F.Floor.facts in
    let stations = (facts.world l.initial.floor).layout.stations in
    Answers facts l.initial.floor l.floor (gathered stations l.stations (drop l.station-index l.rows) ≡ gathered stations map.empty l.rows)
