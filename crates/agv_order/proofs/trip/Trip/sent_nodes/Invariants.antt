use Rattle.std.proofs.Common.{◌≡◌, drop, take}
use Rattle.agv_order.proofs.Messaging.{nodes_along}
use Rattle.agv_order.proofs.trip.Trip.sent_nodes.Given as goal

abbrev pub invariant-loop-before : goal.invariant-loop-before
invariant-loop-before l = l.nodes.items ≡ drop l.self.first (nodes_along l.self (take l.before l.self.edges))
