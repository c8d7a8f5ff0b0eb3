use Rattle.std.proofs.Common.{◌≡◌}
use Rattle.std.specs.FinMap as map
use Rattle.std.specs.FinSet as set
use Rattle.agv_world_lawful.specs.LoadTests.{is_each_new}
use Rattle.agv_world_lawful.proofs.jobs.has_one_job_each.Given as goal

-- the jobs that are left pass just where all do
abbrev pub invariant-loop-row : goal.invariant-loop-row
invariant-loop-row l = is_each_new l.noted l.row-iterator ≡ is_each_new set.empty (map.entries l.world.jobs)
