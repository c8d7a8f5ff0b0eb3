use Rattle.std.proofs.Common.{◌≡◌, ◌<◌, length, get_or, take, ap, sym, ◌∙◌, Vec, Global, arith}
use Rattle.std.proofs.lemmas.List.{length-take-le}
use Rattle.agv_message_core.specs.declared.order.OrderEdge.{OrderEdge}
use Rattle.agv_order.proofs.Messaging.{edges_along, edges_more, edges_count, more_left, none_left, pushed}
use Rattle.agv_order.proofs.trip.Trip.sent_edges.Goals.{then-self-k+in_ok-push, else-self-k}
use Rattle.agv_order.proofs.trip.Trip.sent_edges.Goals as goal

pub loop-place-preserved : goal.loop-place-preserved
loop-place-preserved c =
    let trip = c.args.self.now in
    let i = c.loop-place.place in
    let edge = c.edge-item.result in
    let within : i < length trip.edges = rw c.as_slice-edge-items.ensures at c.loop-place-test.true in
    let is : edge ≡ get_or trip.edges i edge = rw c.as_slice-edge-items.ensures at c.edge-item.is in
    let more = edges_more trip trip.edges i edge within is in
    let count : length (edges_along trip (take i trip.edges)) ≡ i =
    omega (arith, edges_count trip (take i trip.edges), length-take-le i trip.edges (omega arith)) in
    elim c.if-self-k.branch [
      | then-self-k+in_ok-push w ↦
          ap (λ (v : Vec OrderEdge Global). v.items) w.edges-is
          ∙ pushed _ _ _ _ _ _ c.loop-place.invariant (more_left trip.first _ _ _ more (omega arith)) w.in_ok-push.ensures.items w.edge.ensures
      | else-self-k w ↦
          ap (λ (v : Vec OrderEdge Global). v.items) w.edges-is
          ∙ (c.loop-place.invariant ∙ sym (none_left trip.first _ _ _ more (omega arith)))
    ]
