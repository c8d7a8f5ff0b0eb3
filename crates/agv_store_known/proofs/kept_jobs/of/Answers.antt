use Rattle.std.proofs.Common.{subst, sym, ◌∙◌}
use Rattle.agv_store_known.specs.KeptJobs.{JobsOf}
use Rattle.agv_store_known.proofs.KeptJobs.{IsReading, all_read, none_read, one_read}
use Rattle.agv_store_known.proofs.kept_jobs.of.Goals as goal

pub loop-name-init : goal.loop-name-init
loop-name-init c =
    subst (λ (live : JobsOf). IsReading live c.args.jobs.now c.into_iter-name-iterator.result) (sym c.new-live.ensures)
    (subst (IsReading _ c.args.jobs.now) (sym (c.into_iter-name-iterator.ensures.into_iter_gives ∙ c.iter-name-items.ensures)) (none_read c.args.jobs.now))

pub loop-name-preserved : goal.loop-name-preserved
loop-name-preserved c =
    one_read c.loop-name.live c.put_row.new.live c.args.jobs.now (c.in-Some.name.now, c.in-Some.row.now) c.next.new.self c.in_ok-put_row.ensures
    (subst (IsReading c.loop-name.live c.args.jobs.now) c.in-Some.ensures.steps c.loop-name.invariant)

pub returns : goal.returns
returns c = all_read c.loop-name.live c.args.jobs.now (subst (IsReading c.loop-name.live c.args.jobs.now) c.in-None.ensures.steps.0 c.loop-name.invariant)
