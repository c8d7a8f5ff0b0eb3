use Rattle.agv_layout.proofs.Walking.{one_end}
use Rattle.agv_layout.proofs.laws.has_one_end.Goals as goal

pub returns : goal.returns
returns c = one_end
