use Rattle.std.proofs.Common.{sym, ap}
use Rattle.agv_message_core.specs.Status.{status_of}
use Rattle.agv_message_core.proofs.status.Status.of.Goals as goal

pub returns-in-FAILED : goal.returns-in-FAILED
unfolding status_of
returns-in-FAILED c = ap status_of (sym c.in-FAILED.is)
