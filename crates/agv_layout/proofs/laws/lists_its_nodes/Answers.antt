use Rattle.agv_layout.proofs.InOrder.{nodes_in_order, from_its_nodes}
use Rattle.agv_layout.proofs.laws.lists_its_nodes.Goals as goal

pub returns : goal.returns
returns c layout = record { ordered = nodes_in_order layout; all = from_its_nodes layout }
