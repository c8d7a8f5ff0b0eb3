use Rattle.std.proofs.Common.{ap, ◌∙◌}
use Rattle.std.specs.FinMap as map
use Rattle.agv_header.specs.KeyOrder.{key_cmp-total, key_cmp-IsAntisymmetric}
use Rattle.agv_world_core.proofs.lists.Shown.{insert-shown}
use Rattle.agv_world_core.proofs.tables.by_vehicle.ByVehicle.insert.Goals as goal

pub returns-clause-ok : goal.returns-clause-ok
returns-clause-ok g c = insert-shown key_cmp-total key_cmp-IsAntisymmetric _ _ _ _ c.in_ok-insert.ensures.updates.0 ∙ ap (λ m. map.insert m c.args.key c.args.row) c.self.view_is
