use Rattle.std.proofs.Common.{subst, sym}
use Rattle.agv_world_core.specs.Changes.{change}
use Rattle.agv_world_core.specs.Maps.{Maps}
use Rattle.agv_store_known.specs.KeptJobs.{AreJobs}
use Rattle.agv_store_known.proofs.KeptJobs.{jobs_stay}
use Rattle.agv_store_known.proofs.kept_jobs.follow.Goals as goal

pub returns-in-Job : goal.returns-in-Job
returns-in-Job c =
    subst (λ one. (maps : Maps) → AreJobs c.args.jobs.now maps → AreJobs c.put_if_kept.new.jobs (change maps one)) (sym c.in-Job.is) c.put_if_kept.ensures

pub returns-in_default : goal.returns-in_default
returns-in_default c = jobs_stay c.args.jobs.now c.args.one.now c.in_default.not-Job
