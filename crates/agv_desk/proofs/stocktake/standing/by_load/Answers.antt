use Rattle.std.proofs.Common.{subst, sym}
use Rattle.agv_desk.specs.CountParts.{Tells}
use Rattle.agv_desk.proofs.stocktakes.StandingLoads.{none_told, told_more}
use Rattle.agv_desk.proofs.stocktake.standing.by_load.Goals as goal

pub loop-load-init : goal.loop-load-init
loop-load-init c = λ world there. subst (Tells world) (sym c.new-places.ensures) (none_told world)

pub loop-load-preserved : goal.loop-load-preserved
loop-load-preserved c = λ world there.
    subst (Tells world) (sym c.in_ok-insert.ensures.ok)
    (told_more world c.loop-load.places c.args.loads.now c.loop-load.load-index c.loop-load-item.result c.loop-load-test.true c.loop-load-item.is there (c.loop-load.invariant world there))
