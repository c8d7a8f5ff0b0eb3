use Rattle.agv_layout.proofs.Order.{read_alike}
use Rattle.agv_layout.proofs.laws.ignores_order.Goals as goal

pub returns : goal.returns
returns c = read_alike
