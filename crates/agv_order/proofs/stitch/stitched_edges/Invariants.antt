use Rattle.std.proofs.Common.{◌≡◌, ◌++◌, take}
use Rattle.std.specs.List.{filter}
use Rattle.agv_message_core.specs.declared.order.OrderEdge.{OrderEdge}
use Rattle.agv_order.proofs.stitch.stitched_edges.Given as goal

abbrev pub invariant-loop-edge : goal.invariant-loop-edge
invariant-loop-edge l = l.edges.items ≡ filter (λ (edge : OrderEdge). edge.released) (take l.edge-index l.held)

abbrev pub invariant-loop-edge-2 : goal.invariant-loop-edge-2
invariant-loop-edge-2 l = l.edges.items ≡ filter (λ (edge : OrderEdge). edge.released) l.held ++ take l.edge-index l.update
