use Rattle.agv_layout.proofs.Walking.{walks_join}
use Rattle.agv_layout.proofs.laws.joins_walks.Goals as goal

pub returns : goal.returns
returns c = walks_join
