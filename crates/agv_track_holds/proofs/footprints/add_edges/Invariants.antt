use Rattle.std.proofs.Common.{◌≡◌, take}
use Rattle.agv_track_holds.specs.Footprints.{along}
use Rattle.agv_track_holds.specs.OrderedSet.{KnowsAll, with_things}
use Rattle.agv_track_holds.proofs.footprints.add_edges.Given as goal

abbrev pub invariant-loop-edge : goal.invariant-loop-edge
invariant-loop-edge l =
    KnowsAll l.held × (l.held.things.items ≡ with_things l.initial.held.things.items (along (take l.edge-index l.edges)))
