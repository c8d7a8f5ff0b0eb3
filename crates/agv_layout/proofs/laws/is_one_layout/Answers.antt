use Rattle.agv_layout.proofs.Order.{one_layout}
use Rattle.agv_layout.proofs.laws.is_one_layout.Goals as goal

pub returns : goal.returns
returns c = one_layout
