use Rattle.std.proofs.Common.{◌≡◌}
use Rattle.std.specs.FinMap as map
use Rattle.agv_world_lawful.specs.LawfulTests.{are_in_turn}
use Rattle.agv_world_lawful.proofs.trips.are_in_turn.Given as goal

-- what is left is in turn just where all is
abbrev pub invariant-loop-leg : goal.invariant-loop-leg
invariant-loop-leg l = are_in_turn l.world l.order l.k l.leg-iterator ≡ are_in_turn l.world l.order 0 (map.entries l.world.legs)
