use Rattle.std.proofs.Common.{◌≡◌, drop}
use Rattle.agv_track_holds.specs.Holds.{first_held}
use Rattle.agv_world_core.specs.Asks.{Answers}
use Rattle.agv_world_core.specs.Maps.{maps_of}
use Rattle.agv_desk.proofs.holds.first_held.Given as goal

abbrev pub invariant-loop-thing : goal.invariant-loop-thing
invariant-loop-thing g l =
    let facts = g.F.Floor.facts in
    let table = (maps_of (facts.world l.initial.floor)).holds in
    Answers facts l.initial.floor l.floor (first_held table l.key l.things ≡ first_held table l.key (drop l.thing-index l.things))
