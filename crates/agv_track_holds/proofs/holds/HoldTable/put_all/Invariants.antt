use Rattle.std.proofs.Common.{◌≡◌, take}
use Rattle.agv_track_holds.specs.Holds.{claimed}
use Rattle.agv_track_holds.proofs.holds.HoldTable.put_all.Given as goal

abbrev pub invariant-loop-thing : goal.invariant-loop-thing
invariant-loop-thing l = l.self ≡ claimed l.initial.self l.key (take l.thing-index l.things)
