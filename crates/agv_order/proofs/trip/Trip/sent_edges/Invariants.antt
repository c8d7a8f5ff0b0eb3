use Rattle.std.proofs.Common.{◌≡◌, drop, take}
use Rattle.agv_order.proofs.Messaging.{edges_along}
use Rattle.agv_order.proofs.trip.Trip.sent_edges.Given as goal

abbrev pub invariant-loop-place : goal.invariant-loop-place
invariant-loop-place l = l.edges.items ≡ drop l.self.first (edges_along l.self (take l.place l.self.edges))
