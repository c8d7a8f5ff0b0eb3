use Rattle.std.proofs.Common.{sym, ap, ◌∙◌}
use Rattle.std.specs.FinMap as map
use Rattle.agv_world_core.proofs.lists.Orders.{names_total, names_apart}
use Rattle.agv_world_core.proofs.lists.InOrder.{entries-shown}
use Rattle.agv_world_core.proofs.tables.by_name.ByName.iter.Goals as goal

pub returns : goal.returns
returns g c = c.iter.ensures.rest ∙ sym (entries-shown names_total names_apart _ c.iter.ensures.ordered) ∙ ap map.entries c.self.view_is
