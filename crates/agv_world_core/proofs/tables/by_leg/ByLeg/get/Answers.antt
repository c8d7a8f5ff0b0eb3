use Rattle.std.proofs.Common.{sym, ap, ◌∙◌}
use Rattle.std.specs.FinMap as map
use Rattle.agv_world_core.specs.KeyOrders.{leg_cmp-total}
use Rattle.agv_world_core.proofs.lists.Shown.{get-shown}
use Rattle.agv_world_core.proofs.tables.by_leg.ByLeg.get.Goals as goal

pub returns : goal.returns
returns c = c.get.ensures.value ∙ sym (get-shown leg_cmp-total _ _) ∙ ap (λ m. map.get m c.args.key) c.self.view_is
