use Rattle.std.proofs.Common.{◌≡◌}
use Rattle.std.specs.FinMap as map
use Rattle.agv_world_lawful.specs.LoadTests.{with_jobs}
use Rattle.agv_world_lawful.proofs.room.add_jobs.Given as goal

-- what is counted, with what is left, makes all
abbrev pub invariant-loop-row : goal.invariant-loop-row
invariant-loop-row l = with_jobs l.tally l.row-iterator ≡ with_jobs l.fn.tally (map.entries l.world.jobs)
