use Rattle.std.proofs.Common.{◌<◌, ◌^◌, ℕ, sym, subst, ◌∙◌}
use Rattle.agv_world_core.proofs.lists.Asking.{retold}
use Rattle.agv_store_floor.proofs.ReportLists.{few_jobs}
use Rattle.agv_store_floor.proofs.keyed_floor.KeyedFloor.jobs_to.Goals as goal

pub returns : goal.returns
returns g c = retold (λ is lawful. c.told_number.ensures (subst (λ (n : ℕ). n < 2 ^ 32) (sym is) (few_jobs _ c.args.station lawful)) ∙ is) c.in_ok-jobs.ensures
