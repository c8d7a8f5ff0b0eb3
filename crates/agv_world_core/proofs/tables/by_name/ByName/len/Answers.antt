use Rattle.std.proofs.Common.{sym, ap, ◌∙◌}
use Rattle.std.specs.FinMap as map
use Rattle.agv_world_core.proofs.lists.Orders.{names_total, names_apart}
use Rattle.agv_world_core.proofs.lists.InOrder.{len-shown}
use Rattle.agv_world_core.proofs.tables.by_name.ByName.len.Goals as goal

pub returns : goal.returns
returns g c = c.len.ensures.len ∙ sym (len-shown names_total names_apart _ c.len.ensures.ordered) ∙ ap map.len c.self.view_is
