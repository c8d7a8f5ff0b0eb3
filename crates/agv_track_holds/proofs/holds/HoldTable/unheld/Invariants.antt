use Rattle.std.proofs.Common.{◌≡◌, take}
use Rattle.agv_track_holds.specs.Holds.{unheld_of}
use Rattle.agv_track_holds.proofs.holds.HoldTable.unheld.Given as goal

abbrev pub invariant-loop-thing : goal.invariant-loop-thing
invariant-loop-thing l = l.unheld.items ≡ unheld_of l.self (take l.thing-index l.things)
