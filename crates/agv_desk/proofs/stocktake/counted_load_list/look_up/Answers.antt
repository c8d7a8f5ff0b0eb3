use Rattle.std.proofs.Common.{◌++◌, ◌+◌, List, drop, ap, subst, sym, ◌∙◌}
use Rattle.agv_world_core.proofs.lists.Asking.{retold}
use Rattle.agv_world_core.specs.Worlds.{World}
use Rattle.agv_desk.specs.CountParts.{Tells, counted_loads, with_counted_load}
use Rattle.agv_desk.specs.declared.stocktake.counted_load.CountedLoad.{CountedLoad}
use Rattle.agv_desk.proofs.lists.AskedInTurn.{asked_next, says_so}
use Rattle.agv_desk.proofs.stocktakes.CountedLoads.{looked_at_all, looked_more}
use Rattle.agv_desk.proofs.stocktake.counted_load_list.look_up.Goals as goal

pub returns : goal.returns
returns g c = retold (λ told known. looked_at_all (g.F.Floor.facts.world c.args.floor.now) c.loop-station.counted_list.items _ c.args.rows.now c.loop-station.station-index c.loop-station-test.false (told known)) c.loop-station.invariant

pub loop-station-preserved : goal.loop-station-preserved
loop-station-preserved g c =
    let start = g.F.Floor.facts.world c.args.floor.now in
    let so_far = c.loop-station.invariant in
    let asked = c.in_ok-note_counted_load.ensures in
    let row = c.loop-station-item.result in
    says_so (asked_next so_far asked) (λ clean known.
    let was_clean = asked.was_clean clean in
    ap (λ (items : List CountedLoad). items ++ counted_loads start (drop (c.loop-station.station-index + 1) c.args.rows.now)) (asked.told clean (subst (λ (w : World). Tells w c.args.places.now) (sym (so_far.world was_clean)) known) ∙ ap (λ w. with_counted_load w c.loop-station.counted_list.items row.0 row.1) (so_far.world was_clean))
    ∙ looked_more start c.loop-station.counted_list.items c.args.rows.now c.loop-station.station-index row _ c.loop-station-test.true c.loop-station-item.is (so_far.told was_clean known))
