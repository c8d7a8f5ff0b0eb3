use Rattle.std.proofs.Common.{◌≡◌}
use Rattle.std.specs.FinMap as map
use Rattle.std.specs.List.{find}
use Rattle.agv_world_core.specs.Told.{names_vehicle}
use Rattle.agv_world_plain.proofs.carriers.order_dropping.Given as goal

-- the first of what is left is the first of all
abbrev pub invariant-loop-order : goal.invariant-loop-order
invariant-loop-order l = find (names_vehicle l.key) l.order-iterator ≡ find (names_vehicle l.key) (map.entries l.world.trips)
