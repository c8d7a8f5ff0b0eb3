use Rattle.std.proofs.Common.{sym, ◌∙◌}
use Rattle.agv_store_known.proofs.KeptLayout.{layout_stays}
use Rattle.agv_store_known.proofs.kept_layout.follow.Goals as goal

pub returns-else-is_of_layout : goal.returns-else-is_of_layout
returns-else-is_of_layout c = layout_stays c.args.layout.now c.args.one.now (sym c.is_of_layout.ensures ∙ c.if-is_of_layout.false)
