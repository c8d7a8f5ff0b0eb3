use Rattle.std.proofs.Common.{sym, ap, ◌∙◌}
use Rattle.std.specs.FinMap as map
use Rattle.agv_world_core.proofs.lists.InOrder.{len-shown}
use Rattle.agv_store_rows.specs.ActKeys.{act_cmp-IsAntisymmetric, act_cmp-total}
use Rattle.agv_store_rows.proofs.by_act.ByAct.len.Goals as goal

pub returns : goal.returns
returns c = c.len.ensures.len ∙ sym (len-shown act_cmp-total act_cmp-IsAntisymmetric _ c.len.ensures.ordered) ∙ ap map.len c.self.view_is
