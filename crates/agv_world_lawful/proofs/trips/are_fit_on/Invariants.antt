use Rattle.std.proofs.Common.{◌≡◌}
use Rattle.std.specs.FinMap as map
use Rattle.std.specs.List.{list_all}
use Rattle.agv_world_lawful.specs.LawfulTests.{is_fit}
use Rattle.agv_world_lawful.proofs.trips.are_fit_on.Given as goal

-- what is left passes just where all does
abbrev pub invariant-loop-order : goal.invariant-loop-order
invariant-loop-order l = list_all (is_fit l.world l.layout) l.order-iterator ≡ list_all (is_fit l.world l.layout) (map.entries l.world.trips)
