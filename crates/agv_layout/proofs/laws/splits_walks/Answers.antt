use Rattle.agv_layout.proofs.Walking.{walk_splits}
use Rattle.agv_layout.proofs.laws.splits_walks.Goals as goal

pub returns : goal.returns
returns c = walk_splits
