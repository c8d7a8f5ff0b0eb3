use Rattle.std.proofs.Common.{◌≡◌, ◌++◌, map, drop}
use Rattle.agv_header.specs.declared.key.Thing.{Thing as Held}
use Rattle.agv_track_holds.specs.Holders.{gained}
use Rattle.agv_world_core.specs.declared.change.Change.TheVariants as row
use Rattle.agv_desk.proofs.holds.push_gained.Given as goal

abbrev pub invariant-loop-thing : goal.invariant-loop-thing
invariant-loop-thing l =
    let holds = λ (thing : Held). row.Hold thing l.holder in
    l.changes.items ++ map holds (gained l.old (drop l.thing-index l.new)) ≡ l.initial.changes.items ++ map holds (gained l.old l.new)
