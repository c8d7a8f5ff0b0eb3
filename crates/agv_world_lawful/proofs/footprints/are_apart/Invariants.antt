use Rattle.std.proofs.Common.{◌≡◌}
use Rattle.std.specs.FinMap as map
use Rattle.agv_world_lawful.specs.LawfulTests.{can_claim}
use Rattle.agv_world_lawful.proofs.footprints.are_apart.Given as goal

-- the vehicles that are left can claim just where all can
abbrev pub invariant-loop-key : goal.invariant-loop-key
invariant-loop-key l = can_claim l.world l.holds l.key-iterator ≡ can_claim l.world map.empty (map.entries l.world.vehicles)
