use Rattle.std.proofs.Common.{ap, ◌∙◌}
use Rattle.std.specs.FinMap as map
use Rattle.agv_header.specs.KeyOrder.{key_cmp-total, key_cmp-IsAntisymmetric}
use Rattle.agv_world_core.proofs.lists.Shown.{remove-shown}
use Rattle.agv_world_core.proofs.tables.by_vehicle.ByVehicle.remove.Goals as goal

pub returns : goal.returns
returns g c = remove-shown key_cmp-total key_cmp-IsAntisymmetric _ _ _ c.remove.ensures.updates.0 ∙ ap (λ m. map.remove m c.args.key) c.self.view_is
