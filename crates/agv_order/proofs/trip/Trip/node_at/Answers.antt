use Rattle.std.proofs.Common.{◌≡◌, Some, subst}
use Rattle.std.specs.List.{slice_get}
use Rattle.agv_order.specs.Trips.{nodes_on}
use Rattle.agv_order.proofs.PlanTests.{node-after}
use Rattle.agv_order.proofs.trip.Trip.node_at.Goals as goal

pub returns : goal.returns
returns c =
    let trip = c.args.self.now in
    let edge = c.in_ok-edge.edge.now in
    let found = c.in_ok-edge.ensures.lookup in
    subst (λ edges. Some edge.finish ≡ slice_get (nodes_on trip.start edges) c.args.k) c.as_slice.ensures
    (node-after trip.start c.as_slice.result.now c.args.k edge c.if-k-eq0.false found.3.0 found.1)
