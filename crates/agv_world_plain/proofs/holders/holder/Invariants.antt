use Rattle.std.proofs.Common.{◌≡◌}
use Rattle.std.specs.FinMap as map
use Rattle.std.specs.List.{find}
use Rattle.agv_world_core.specs.Told.{is_held_by}
use Rattle.agv_world_plain.proofs.holders.holder.Given as goal

-- the first of what is left is the first of all
abbrev pub invariant-loop-key : goal.invariant-loop-key
invariant-loop-key l = find (is_held_by l.world l.thing) l.key-iterator ≡ find (is_held_by l.world l.thing) (map.entries l.world.vehicles)
