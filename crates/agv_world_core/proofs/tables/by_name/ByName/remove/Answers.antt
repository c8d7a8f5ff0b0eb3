use Rattle.std.proofs.Common.{ap, ◌∙◌}
use Rattle.std.specs.FinMap as map
use Rattle.agv_world_core.proofs.lists.Orders.{names_total, names_apart}
use Rattle.agv_world_core.proofs.lists.Shown.{remove-shown}
use Rattle.agv_world_core.proofs.tables.by_name.ByName.remove.Goals as goal

pub returns : goal.returns
returns g c = remove-shown names_total names_apart _ _ _ c.remove.ensures.updates.0 ∙ ap (λ m. map.remove m c.args.key) c.self.view_is
