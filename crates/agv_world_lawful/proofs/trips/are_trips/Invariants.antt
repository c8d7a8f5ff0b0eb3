use Rattle.std.proofs.Common.{◌≡◌}
use Rattle.std.specs.FinMap as map
use Rattle.std.specs.List.{list_all}
use Rattle.agv_world_lawful.specs.LawfulTests.{is_trip_row}
use Rattle.agv_world_lawful.proofs.trips.are_trips.Given as goal

-- what is left passes just where all does
abbrev pub invariant-loop-order : goal.invariant-loop-order
invariant-loop-order l = list_all (is_trip_row l.world) l.order-iterator ≡ list_all (is_trip_row l.world) (map.entries l.world.trips)
