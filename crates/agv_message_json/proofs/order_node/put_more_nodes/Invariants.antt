use Rattle.std.proofs.Common.{All, take}
use Rattle.agv_message_json.specs.OrderData.{node_data}
use Rattle.agv_message_json.specs.Appending.{SoFar}
use Rattle.agv_message_json.specs.Pieces.{more_values}
use Rattle.agv_message_json.specs.Readable.{IsReadable}
use Rattle.agv_message_json.proofs.order_node.put_more_nodes.Given as goal

abbrev pub invariant-loop-node : goal.invariant-loop-node
invariant-loop-node l = SoFar l.initial.out l.out (more_values (node_data l.order) (take l.node-index l.nodes)) × All (λ node. IsReadable (node_data l.order node)) (take l.node-index l.nodes)
