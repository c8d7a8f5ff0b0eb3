use Rattle.std.proofs.Common.{◌≡◌, take}
use Rattle.agv_track_holds.specs.Holds.{shed_from}
use Rattle.agv_track_holds.proofs.holds.HoldTable.shed.Given as goal

abbrev pub invariant-loop-thing : goal.invariant-loop-thing
invariant-loop-thing l = l.self ≡ shed_from l.initial.self l.key (take l.thing-index l.old) l.new
