use Rattle.agv_order.proofs.Stopping.{pairs_as_said}
use Rattle.agv_order.proofs.laws.pairs_as_said.Goals as goal

pub returns : goal.returns
returns c = pairs_as_said
