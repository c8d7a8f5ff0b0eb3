use Rattle.std.proofs.Common.{ap, ◌∙◌}
use Rattle.std.specs.FinMap as map
use Rattle.agv_world_core.proofs.lists.Asking.{retold}
use Rattle.agv_world_core.specs.Worlds.{World}
use Rattle.agv_desk.specs.CountParts.{noted_station}
use Rattle.agv_desk.proofs.lists.AskedInTurn.{asked_next, says_so}
use Rattle.agv_desk.proofs.stocktakes.CountedStations.{all_noted, unknown_row}
use Rattle.agv_desk.proofs.stocktake.stations.counted_stations.Goals as goal

pub returns-then-not-branch : goal.returns-then-not-branch
returns-then-not-branch g c =
    let so_far = c.loop-station.invariant in
    let asked = c.in_ok-note_station.ensures in
    let noted = c.loop-station.stations in
    let row = c.loop-station-item.result in
    says_so (asked_next so_far asked) (λ clean.
    unknown_row (g.F.Floor.facts.world c.args.floor.now) c.args.rows.now noted c.note_station.new.stations c.loop-station.station-index row _ c.loop-station-test.true c.loop-station-item.is
    (asked.told clean ∙ ap (λ (w : World). noted_station noted row.0 (map.get noted row.0) (map.get w.layout.stations row.0)) (so_far.world (asked.was_clean clean)))
    c.if-not-branch.true)

pub returns : goal.returns
returns g c = retold (λ told. all_noted (g.F.Floor.facts.world c.args.floor.now) c.args.rows.now c.loop-station.stations c.loop-station.station-index c.loop-station-test.false told) c.loop-station.invariant
