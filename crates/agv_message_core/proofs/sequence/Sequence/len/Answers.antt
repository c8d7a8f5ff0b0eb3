use Rattle.std.proofs.Common.{length, ap, ◌∙◌}
use Rattle.agv_message_core.proofs.sequence.Sequence.len.Goals as goal

pub returns : goal.returns
returns g c = c.len.ensures ∙ c.self.inside.kept.ok.0 ∙ ap length c.self.view_is
