use Rattle.std.proofs.Common.{ap, ◌∙◌}
use Rattle.std.specs.FinMap as map
use Rattle.agv_world_core.proofs.lists.Shown.{insert-shown}
use Rattle.agv_store_rows.specs.ActKeys.{act_cmp-IsAntisymmetric, act_cmp-total}
use Rattle.agv_store_rows.proofs.by_act.ByAct.insert.Goals as goal

pub returns-clause-ok : goal.returns-clause-ok
returns-clause-ok c = insert-shown act_cmp-total act_cmp-IsAntisymmetric _ _ _ _ c.in_ok-insert.ensures.updates.0 ∙ ap (λ m. map.insert m c.args.key c.args.row) c.self.view_is
