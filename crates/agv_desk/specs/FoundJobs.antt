-- The jobs that are found stop by stop, without asking twice for one. No public clause cites this.
use Rattle.std.specs.Prelude.{◌≡◌, ℕ, List, Option, Some}
use Rattle.std.specs.FinMap as finite
use Rattle.std.specs.Option.{option_map}
use Rattle.agv_order.specs.Plans.{job_named}
use Rattle.agv_stock.specs.declared.job.Job.{Job}
use Rattle.agv_world_core.specs.Worlds.{World}
use Rattle.agv_desk.specs.OrderSteps.{named}

-- the job of this name, if it is known
abbrev pub job_by : World → List ℕ → Option Job
job_by world name = option_map (named name) (finite.get world.jobs name)

-- each job of the list is the job of its name in the world
pub record AreFound (world : World) (jobs : List Job) : Type 0 where
  pub each : (name : List ℕ) (job : Job) → job_named jobs name ≡ Some job → job_by world name ≡ Some job
