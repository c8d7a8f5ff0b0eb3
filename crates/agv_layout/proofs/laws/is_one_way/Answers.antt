use Rattle.agv_layout.proofs.Uniques.{one_way}
use Rattle.agv_layout.proofs.laws.is_one_way.Goals as goal

pub returns : goal.returns
returns c = one_way
