use Rattle.std.proofs.Common.{◌≡◌}
use Rattle.std.specs.FinMap as map
use Rattle.std.specs.List.{find}
use Rattle.agv_world_core.specs.Told.{names_vehicle}
use Rattle.agv_world_lawful.proofs.room.acts_of.Given as goal

-- the first of what is left is the first of all
abbrev pub invariant-loop-row : goal.invariant-loop-row
invariant-loop-row l = find (names_vehicle l.key) l.row-iterator ≡ find (names_vehicle l.key) (map.entries l.world.trips)
