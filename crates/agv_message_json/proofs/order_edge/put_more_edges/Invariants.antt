use Rattle.std.proofs.Common.{All, take}
use Rattle.agv_message_json.specs.OrderData.{edge_data}
use Rattle.agv_message_json.specs.Appending.{SoFar}
use Rattle.agv_message_json.specs.Pieces.{more_values}
use Rattle.agv_message_json.specs.Readable.{IsReadable}
use Rattle.agv_message_json.proofs.order_edge.put_more_edges.Given as goal

abbrev pub invariant-loop-edge : goal.invariant-loop-edge
invariant-loop-edge l = SoFar l.initial.out l.out (more_values edge_data (take l.edge-index l.edges)) × All (λ edge. IsReadable (edge_data edge)) (take l.edge-index l.edges)
