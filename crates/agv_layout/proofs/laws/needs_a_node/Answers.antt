use Rattle.agv_layout.proofs.RowsBack.{node_needed}
use Rattle.agv_layout.proofs.laws.needs_a_node.Goals as goal

pub returns : goal.returns
returns c = node_needed
