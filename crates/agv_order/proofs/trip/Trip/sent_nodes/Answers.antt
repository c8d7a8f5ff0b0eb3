use Rattle.std.proofs.Common.{◌≡◌, ◌+◌, ◌<◌, length, get_or, take, ap, sym, ◌∙◌, Vec, Global, arith}
use Rattle.std.proofs.lemmas.List.{length-take-le}
use Rattle.agv_message_core.specs.declared.order.OrderNode.{OrderNode}
use Rattle.agv_order.proofs.Messaging.{nodes_along, nodes_more, nodes_count, more_left, none_left, pushed}
use Rattle.agv_order.proofs.trip.Trip.sent_nodes.Goals.{then-self-k+in_ok-node-2+in_ok-push-2, else-self-k}
use Rattle.agv_order.proofs.trip.Trip.sent_nodes.Goals as goal

pub loop-before-preserved : goal.loop-before-preserved
loop-before-preserved c =
    let trip = c.args.self.now in
    let i = c.loop-before.before in
    let edge = c.edge-item.result in
    let within : i < length trip.edges = rw c.as_slice-edge-items.ensures at c.loop-before-test.true in
    let is : edge ≡ get_or trip.edges i edge = rw c.as_slice-edge-items.ensures at c.edge-item.is in
    let more = nodes_more trip trip.edges i edge within is in
    let count : length (nodes_along trip (take i trip.edges)) ≡ i + 1 =
    omega (arith, nodes_count trip (take i trip.edges), length-take-le i trip.edges (omega arith)) in
    elim c.if-self-k.branch [
      | then-self-k+in_ok-node-2+in_ok-push-2 w ↦
          ap (λ (v : Vec OrderNode Global). v.items) w.nodes-is
          ∙ pushed _ _ _ _ _ _ c.loop-before.invariant (more_left trip.first _ _ _ more (omega arith)) w.in_ok-push-2.ensures.items w.in_ok-node-2.ensures
      | else-self-k w ↦
          ap (λ (v : Vec OrderNode Global). v.items) w.nodes-is
          ∙ (c.loop-before.invariant ∙ sym (none_left trip.first _ _ _ more (omega arith)))
    ]
