use Rattle.std.proofs.Common.{◌≡◌}
use Rattle.std.specs.FinMap as map
use Rattle.agv_world_lawful.specs.LoadTests.{with_loads}
use Rattle.agv_world_lawful.proofs.room.add_loads.Given as goal

-- what is counted, with what is left, makes all
abbrev pub invariant-loop-place : goal.invariant-loop-place
invariant-loop-place l = with_loads l.tally l.place-iterator ≡ with_loads l.fn.tally (map.entries l.world.loads)
