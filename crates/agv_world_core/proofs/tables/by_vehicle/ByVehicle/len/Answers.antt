use Rattle.std.proofs.Common.{sym, ap, ◌∙◌}
use Rattle.std.specs.FinMap as map
use Rattle.agv_header.specs.KeyOrder.{key_cmp-total, key_cmp-IsAntisymmetric}
use Rattle.agv_world_core.proofs.lists.InOrder.{len-shown}
use Rattle.agv_world_core.proofs.tables.by_vehicle.ByVehicle.len.Goals as goal

pub returns : goal.returns
returns g c = c.len.ensures.len ∙ sym (len-shown key_cmp-total key_cmp-IsAntisymmetric _ c.len.ensures.ordered) ∙ ap map.len c.self.view_is
