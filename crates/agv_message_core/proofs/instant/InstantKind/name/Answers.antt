use Rattle.std.proofs.Common.{sym, ap}
use Rattle.agv_message_core.specs.Instant.{instant_name}
use Rattle.agv_message_core.proofs.instant.InstantKind.name.Goals as goal

pub returns-in-StopPause : goal.returns-in-StopPause
returns-in-StopPause c = sym (ap instant_name c.in-StopPause.is)
