use Rattle.agv_layout.proofs.Uniques.{nodes_joined}
use Rattle.agv_layout.proofs.laws.joins_nodes.Goals as goal

pub returns : goal.returns
returns c = nodes_joined
