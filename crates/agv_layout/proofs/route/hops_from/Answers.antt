use Rattle.std.proofs.Common.{◌∙◌}
use Rattle.agv_layout.proofs.route.hops_from.Goals as goal

pub returns : goal.returns
returns c = c.copied.ensures ∙ c.get.ensures.value
