use Rattle.std.proofs.Common.{sym, ap, ◌∙◌}
use Rattle.std.specs.FinMap as map
use Rattle.agv_world_core.specs.KeyOrders.{leg_cmp-total, leg_cmp-IsAntisymmetric}
use Rattle.agv_world_core.proofs.lists.InOrder.{entries-shown}
use Rattle.agv_world_core.proofs.tables.by_leg.ByLeg.iter.Goals as goal

pub returns : goal.returns
returns c = c.iter.ensures.rest ∙ sym (entries-shown leg_cmp-total leg_cmp-IsAntisymmetric _ c.iter.ensures.ordered) ∙ ap map.entries c.self.view_is
