use Rattle.std.proofs.Common.{sym, ap}
use Rattle.agv_message_core.specs.Order.{act_name}
use Rattle.agv_message_core.proofs.order.ActKind.name.Goals as goal

pub returns-in-Drop : goal.returns-in-Drop
returns-in-Drop c = sym (ap act_name c.in-Drop.is)
