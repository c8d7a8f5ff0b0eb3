use Rattle.std.proofs.Common.{◌++◌, ◌+◌, ℕ, List, drop, ap, ◌∙◌}
use Rattle.agv_stock.specs.declared.place.Place.{Place}
use Rattle.agv_world_core.proofs.lists.Asking.{retold}
use Rattle.agv_world_core.specs.Questions.{loads_at}
use Rattle.agv_world_core.specs.Worlds.{World}
use Rattle.agv_desk.specs.CountParts.{standing, standing_at}
use Rattle.agv_desk.proofs.lists.AskedInTurn.{asked_next, says_so}
use Rattle.agv_desk.proofs.stocktakes.StandingLoads.{standing_all, standing_more}
use Rattle.agv_desk.proofs.stocktake.standing.standing_at_each.Goals as goal

pub loop-station-preserved : goal.loop-station-preserved
loop-station-preserved g c =
    let start = g.F.Floor.facts.world c.args.floor.now in
    let so_far = c.loop-station.invariant in
    let asked = c.in_ok-note_standing.ensures in
    let station = c.loop-station-item.result in
    let loads = c.loop-station.standing.items in
    says_so (asked_next so_far asked) (λ clean.
    let was_clean = asked.was_clean clean in
    ap (λ (items : List (List ℕ × Place)). items ++ standing start (drop (c.loop-station.station-index + 1) c.args.stations.now)) (asked.told clean ∙ ap (λ (w : World). loads ++ standing_at station.0 (loads_at w station.0)) (so_far.world was_clean))
    ∙ standing_more start loads c.args.stations.now c.loop-station.station-index station _ c.loop-station-test.true c.loop-station-item.is (so_far.told was_clean))

pub returns : goal.returns
returns g c = retold (λ told. standing_all (g.F.Floor.facts.world c.args.floor.now) c.loop-station.standing.items _ c.args.stations.now c.loop-station.station-index c.loop-station-test.false told) c.loop-station.invariant
