use Rattle.std.proofs.Common.{ap, ◌∙◌}
use Rattle.std.specs.FinMap as map
use Rattle.agv_world_core.specs.KeyOrders.{leg_cmp-total, leg_cmp-IsAntisymmetric}
use Rattle.agv_world_core.proofs.lists.Shown.{insert-shown}
use Rattle.agv_world_core.proofs.tables.by_leg.ByLeg.insert.Goals as goal

pub returns-clause-ok : goal.returns-clause-ok
returns-clause-ok c = insert-shown leg_cmp-total leg_cmp-IsAntisymmetric _ _ _ _ c.in_ok-insert.ensures.updates.0 ∙ ap (λ m. map.insert m c.args.key c.args.row) c.self.view_is
