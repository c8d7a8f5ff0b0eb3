use Rattle.std.proofs.Common.{sym, ap, ◌∙◌}
use Rattle.std.specs.FinMap as map
use Rattle.agv_world_core.proofs.lists.Orders.{names_total}
use Rattle.agv_world_core.proofs.lists.Shown.{get-shown}
use Rattle.agv_world_core.proofs.tables.by_name.ByName.get.Goals as goal

pub returns : goal.returns
returns g c = c.get.ensures.value ∙ sym (get-shown names_total _ _) ∙ ap (λ m. map.get m c.args.key) c.self.view_is
