use Rattle.std.proofs.Common.{◌≡◌, drop}
use Rattle.agv_track_holds.specs.Holds.{first_held}
use Rattle.agv_track_holds.proofs.holds.HoldTable.first_held.Given as goal

abbrev pub invariant-loop-thing : goal.invariant-loop-thing
invariant-loop-thing l = first_held l.self l.key l.things ≡ first_held l.self l.key (drop l.thing-index l.things)
