use Rattle.std.proofs.Common.{ap, ◌≡◌, ◌∙◌, arith, take}
use Rattle.std.proofs.lemmas.List.{take_all}
use Rattle.agv_order.specs.JobProgress.{is_over}
use Rattle.agv_order.specs.Stops.{kinds_of}
use Rattle.agv_order.proofs.Serving.{served_by, over}
use Rattle.agv_order.proofs.job_progress.is_picked_then_dropped.Goals as goal

pub returns : goal.returns
returns c =
    let stops = c.args.stops.now in
    let all : take c.loop-stop.stop-index stops ≡ stops = take_all _ _ (omega arith) in
    c.is_over.ensures ∙ (ap is_over c.loop-stop.invariant ∙ (ap (λ xs. is_over (served_by xs c.args.job)) all ∙ over (kinds_of stops c.args.job)))
