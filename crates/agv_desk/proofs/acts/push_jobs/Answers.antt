use Rattle.std.proofs.Common.{◌++◌, refl}
use Rattle.std.specs.List.{zip}
use Rattle.agv_world_core.proofs.lists.Asking.{retold}
use Rattle.agv_desk.proofs.row_changes.ActJobs.{job_rows, rows-more}
use Rattle.agv_desk.proofs.lists.AskedInTurn.{asked_next, says_so}
use Rattle.agv_desk.proofs.lists.Pairs.{all_made, no_more, one_more}
use Rattle.agv_desk.proofs.acts.push_jobs.Goals as goal

pub loop-act-preserved : goal.loop-act-preserved
loop-act-preserved g c =
    let so_far = c.loop-act.invariant in
    let asked = c.in_ok-push_job.ensures in
    says_so (asked_next so_far asked) (λ clean.
    let was_clean = asked.was_clean clean in
    let left = one_more c.loop-act.act-iterator c.next.new.self c.next.result _ c.in-Some.is c.next.ensures.steps in
    rows-more _ _ c.args.ended _ _ _ _ _ _ (so_far.world was_clean) left (asked.told clean) (so_far.told was_clean))

pub returns : goal.returns
returns g c =
    let rows = job_rows (g.F.Floor.facts.world c.args.floor.now) c.args.ended in
    let left = zip c.loop-act.act-iterator.a.rest.now c.loop-act.act-iterator.b.rest.now in
    let all = c.args.changes.now.items ++ rows (zip c.args.acts.now c.args.statuses.now) in
    let over = no_more c.loop-act.act-iterator c.next.new.self c.next.result c.in-None.is c.next.ensures.steps in
    retold (λ told. all_made rows left c.loop-act.changes.items all refl over told) c.loop-act.invariant
