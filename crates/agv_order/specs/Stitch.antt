-- The parts of a node that the code of a join reads. No public clause cites this.
use Rattle.std.specs.Prelude.{Bool}
use Rattle.agv_message_core.specs.declared.order.OrderNode.{OrderNode}
use Rattle.agv_order.specs.declared.stitch.Mark.{Mark}

-- the node is released: the vehicle may drive there
abbrev pub is_released : OrderNode → Bool
is_released node = node.released

-- the node's id and its sequence number
abbrev pub mark_of : OrderNode → Mark
mark_of node = record { id = node.id; seq = node.seq }
