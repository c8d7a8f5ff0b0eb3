use Rattle.std.proofs.Common.{◌∙◌}
use Rattle.agv_message_core.proofs.sequence.Sequence.as_slice.Goals as goal

pub returns : goal.returns
returns g c = c.as_slice.ensures.value ∙ c.self.view_is
