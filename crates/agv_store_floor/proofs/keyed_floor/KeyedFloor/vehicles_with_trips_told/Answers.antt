use Rattle.std.proofs.Common.{map, ap, ◌∙◌}
use Rattle.std.specs.FinMap as finite
use Rattle.agv_header.specs.Key.{key_cmp}
use Rattle.agv_world_core.specs.Worlds.{World}
use Rattle.agv_world_core.specs.declared.row.VehicleRow.{VehicleRow}
use Rattle.agv_store_floor.specs.Floors.{world_at}
use Rattle.agv_store_floor.specs.ReportLists.{with_trip}
use Rattle.agv_store_floor.proofs.InTurn.{asked_both}
use Rattle.agv_store_floor.proofs.ReportLists.{trips_same}
use Rattle.agv_store_floor.proofs.keyed_floor.KeyedFloor.vehicles_with_trips_told.Goals as goal

pub returns : goal.returns
returns g c =
    let world = world_at g.S.Store c.args.self.now.held in
    let first = c.in_ok-table.ensures in
    asked_both first c.in_ok-vehicles.ensures (λ clean table vehicles.
    vehicles
    ∙ ap (λ (w : World). map (with_trip w) (finite.entries c.in_ok-table.table)) (first.world clean)
    ∙ ap (λ (t : finite.FinMap key_cmp VehicleRow). map (with_trip world) (finite.entries t)) table
    ∙ trips_same world)
