use Rattle.std.proofs.Common.{◌≡◌, take}
use Rattle.agv_message_core.proofs.order.copy_nodes.Given as goal

abbrev pub invariant-loop-node : goal.invariant-loop-node
invariant-loop-node l = l.copy.items ≡ take l.node-index l.node-items
