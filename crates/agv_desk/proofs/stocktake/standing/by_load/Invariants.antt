use Rattle.agv_world_core.specs.Worlds.{World}
use Rattle.agv_desk.specs.CountParts.{AreThere, Tells}
use Rattle.agv_desk.proofs.stocktake.standing.by_load.Given as goal

abbrev pub invariant-loop-load : goal.invariant-loop-load
invariant-loop-load l = (world : World) → AreThere world l.loads → Tells world l.places
