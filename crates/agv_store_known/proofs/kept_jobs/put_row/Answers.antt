use Rattle.std.proofs.Common.{subst, sym, ◌∙◌}
use Rattle.std.specs.FinMap as finite
use Rattle.agv_store_known.specs.KeptJobs.{AreLive, JobsOf}
use Rattle.agv_store_known.proofs.KeptJobs.{ended_taken, live_put}
use Rattle.agv_store_known.proofs.kept_jobs.put_row.Goals as goal

pub returns-in_ok-insert : goal.returns-in_ok-insert
returns-in_ok-insert c jobs are =
    subst (λ (live : JobsOf). AreLive live (finite.insert jobs c.args.name c.args.row.now)) (sym c.in_ok-insert.ensures.ok)
    (live_put c.args.live.now jobs c.args.name c.args.row.now are (sym c.is_live.ensures ∙ c.if-is_live.true))

pub returns-else-is_live : goal.returns-else-is_live
returns-else-is_live c jobs are =
    subst (λ (live : JobsOf). AreLive live (finite.insert jobs c.args.name c.args.row.now)) (sym c.remove.ensures)
    (ended_taken c.args.live.now jobs c.args.name c.args.row.now are (sym c.is_live.ensures ∙ c.if-is_live.false))
