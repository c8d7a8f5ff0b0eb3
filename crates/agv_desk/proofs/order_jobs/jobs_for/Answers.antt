use Rattle.std.proofs.Common.{◌≡◌, Some}
use Rattle.agv_desk.specs.OrderSteps.{job_for}
use Rattle.agv_desk.proofs.lists.AskedInTurn.{asked_next, says_so}
use Rattle.agv_desk.proofs.lists.Each.{after-read}
use Rattle.agv_desk.proofs.trip_acts.FoundJobs.{found_more, read_job}
use Rattle.agv_desk.proofs.order_jobs.jobs_for.Goals as goal

pub loop-stop-preserved : goal.loop-stop-preserved
loop-stop-preserved g c =
    let world = g.F.Floor.facts.world c.args.floor.now in
    let so_far = c.loop-stop.invariant in
    let asked = c.in_ok-job.ensures in
    says_so (asked_next so_far asked) (λ clean.
    let was_clean = asked.was_clean clean in
    let before = so_far.told was_clean in
    let read : job_for world c.stop-item.result ≡ Some c.in-Some.job =
    read_job world _ _ _ c.stop-item.result c.in-Some.job _ (so_far.world was_clean) c.as_slice.ensures.value before.1 (asked.told clean) c.in-Some.is in (
      after-read (job_for world) _ _ _ _ _ _ _ c.loop-stop-test.true c.stop-item.is read c.in_ok-push.ensures.items before.0,
      found_more world _ _ c.stop-item.result c.in-Some.job before.1 read c.in_ok-push.ensures.items,
    ))
