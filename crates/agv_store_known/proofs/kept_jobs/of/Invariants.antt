use Rattle.agv_store_known.proofs.KeptJobs.{IsReading}
use Rattle.agv_store_known.proofs.kept_jobs.of.Given as goal

-- the live ones of the jobs so far
abbrev pub invariant-loop-name : goal.invariant-loop-name
invariant-loop-name l = IsReading l.live l.jobs l.name-iterator
