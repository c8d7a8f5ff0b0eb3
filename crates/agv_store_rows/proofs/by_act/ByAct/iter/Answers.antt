use Rattle.std.proofs.Common.{sym, ap, ◌∙◌}
use Rattle.std.specs.FinMap as map
use Rattle.agv_world_core.proofs.lists.InOrder.{entries-shown}
use Rattle.agv_store_rows.specs.ActKeys.{act_cmp-IsAntisymmetric, act_cmp-total}
use Rattle.agv_store_rows.proofs.by_act.ByAct.iter.Goals as goal

pub returns : goal.returns
returns c = c.iter.ensures.rest ∙ sym (entries-shown act_cmp-total act_cmp-IsAntisymmetric _ c.iter.ensures.ordered) ∙ ap map.entries c.self.view_is
