use Rattle.agv_order.proofs.Updates.{next_update_joined}
use Rattle.agv_order.proofs.laws.joins_next_update.Goals as goal

pub returns : goal.returns
returns c = next_update_joined
