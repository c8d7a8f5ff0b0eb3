use Rattle.std.proofs.Common.{◌≡◌, drop}
use Rattle.agv_order.specs.Plans.{job_named}
use Rattle.agv_order.proofs.stop_route.job_named.Given as goal

abbrev pub invariant-loop-job : goal.invariant-loop-job
invariant-loop-job l = job_named l.jobs l.name ≡ job_named (drop l.job-index l.jobs) l.name
