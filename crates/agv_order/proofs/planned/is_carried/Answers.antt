use Rattle.std.proofs.Common.{ap, ◌≡◌, ◌∙◌, arith, take}
use Rattle.std.proofs.lemmas.List.{take_all}
use Rattle.agv_order.specs.JobProgress.{is_over}
use Rattle.agv_order.specs.Stops.{kinds_of}
use Rattle.agv_order.specs.WellFormedTest.{stops_of}
use Rattle.agv_order.proofs.Serving.{served_by, over}
use Rattle.agv_order.proofs.planned.is_carried.Goals as goal

pub returns : goal.returns
returns c =
    let acts = c.args.acts.now in
    let all : take c.loop-act.act-index acts ≡ acts = take_all _ _ (omega arith) in
    c.is_over.ensures
    ∙ (ap is_over c.loop-act.invariant ∙ (ap (λ some. is_over (served_by (stops_of some) c.args.job)) all ∙ over (kinds_of (stops_of acts) c.args.job)))
