use Rattle.std.proofs.Common.{◌≡◌, None, cond, take}
use Rattle.std.specs.FinMap as map
use Rattle.agv_header.specs.declared.key.Thing.{Thing}
use Rattle.agv_track_holds.specs.Holds.{is_in}
use Rattle.agv_track_holds.proofs.holds.HoldTable.free_all.Given as goal

abbrev pub invariant-loop-thing : goal.invariant-loop-thing
invariant-loop-thing l = (q : Thing) → map.get l.self q ≡ cond (is_in q (take l.thing-index l.things)) None (map.get l.initial.self q)
