use Rattle.std.proofs.Common.{ap, sym, ◌∙◌, Vec, Global}
use Rattle.agv_message_core.specs.declared.order.OrderAct.{OrderAct}
use Rattle.agv_order.proofs.Messaging.{acts_yes, acts_no, pushed}
use Rattle.agv_order.proofs.message.acts_at.Goals.{then-act-k+in_ok-push, else-act-k}
use Rattle.agv_order.proofs.message.acts_at.Goals as goal

pub loop-n-preserved : goal.loop-n-preserved
loop-n-preserved c =
    let acts = c.args.acts.now in
    let k = c.args.k in
    let here = c.loop-n.n in
    let act = c.index-acts-n.result in
    elim c.if-act-k.branch [
      | then-act-k+in_ok-push w ↦
          let more = acts_yes acts here act k c.loop-n-test.true c.index-acts-n.is w.if-act-k.true in
          ap (λ (v : Vec OrderAct Global). v.items) w.made-is
          ∙ pushed _ _ _ _ _ _ c.loop-n.invariant more w.in_ok-push.ensures.items w.order_act.ensures
      | else-act-k w ↦
          let same = acts_no acts here act k c.loop-n-test.true c.index-acts-n.is w.if-act-k.false in
          ap (λ (v : Vec OrderAct Global). v.items) w.made-is ∙ (c.loop-n.invariant ∙ sym same)
    ]
