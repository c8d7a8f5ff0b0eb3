use Rattle.std.proofs.Common.{◌≡◌, ℕ, List, ◌*◌, nat_le, ap, ◌∙◌}
use Rattle.agv_message_core.specs.declared.order.OrderAct.{OrderAct}
use Rattle.agv_message_core.specs.declared.order.OrderNode.{OrderNode}
use Rattle.agv_order.specs.declared.act.Act.{Act}
use Rattle.agv_order.specs.Messages.{acts_at}
use Rattle.agv_order.proofs.trip.Trip.node.Goals as goal

pub returns : goal.returns
returns c =
    let trip = c.args.self.now in
    let k = c.args.k in
    let node : ℕ → List OrderAct → OrderNode = λ seq acts. record { id = c.args.id; seq = seq; released = nat_le k trip.base; acts = acts } in
    let acts : c.into.result ≡ acts_at trip.acts k =
    c.into.ensures ∙ (c.in_ok-acts.ensures ∙ ap (λ (all : List Act). acts_at all k) c.as_slice.ensures) in
    ap (λ seq. node seq c.into.result) c.node_seq.ensures ∙ ap (node (2 * k)) acts
