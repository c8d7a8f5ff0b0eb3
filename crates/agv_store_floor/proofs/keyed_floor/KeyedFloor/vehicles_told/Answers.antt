use Rattle.std.proofs.Common.{ap, ◌∙◌}
use Rattle.std.specs.FinMap as finite
use Rattle.std.specs.Map.{keys_of}
use Rattle.agv_header.specs.Key.{key_cmp}
use Rattle.agv_world_core.proofs.lists.Asking.{retold}
use Rattle.agv_world_core.specs.declared.row.VehicleRow.{VehicleRow}
use Rattle.agv_store_floor.specs.Floors.{world_at}
use Rattle.agv_store_floor.proofs.ReportLists.{vehicles_same}
use Rattle.agv_store_floor.proofs.keyed_floor.KeyedFloor.vehicles_told.Goals as goal

pub returns : goal.returns
returns g c = retold (λ is. c.in_ok-keys.ensures ∙ ap (λ (table : finite.FinMap key_cmp VehicleRow). keys_of (finite.entries table)) is ∙ vehicles_same (world_at g.S.Store c.args.self.now.held)) c.in_ok-table.ensures
