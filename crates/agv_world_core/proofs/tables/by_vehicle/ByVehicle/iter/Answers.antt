use Rattle.std.proofs.Common.{sym, ap, ◌∙◌}
use Rattle.std.specs.FinMap as map
use Rattle.agv_header.specs.KeyOrder.{key_cmp-total, key_cmp-IsAntisymmetric}
use Rattle.agv_world_core.proofs.lists.InOrder.{entries-shown}
use Rattle.agv_world_core.proofs.tables.by_vehicle.ByVehicle.iter.Goals as goal

pub returns : goal.returns
returns g c = c.iter.ensures.rest ∙ sym (entries-shown key_cmp-total key_cmp-IsAntisymmetric _ c.iter.ensures.ordered) ∙ ap map.entries c.self.view_is
