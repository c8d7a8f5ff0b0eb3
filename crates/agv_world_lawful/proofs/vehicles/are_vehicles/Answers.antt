use Rattle.std.proofs.Common.{rules, tests}
use Rattle.std.specs.FinMap as map
use Rattle.std.proofs.lemmas.Iterator.Consumers.{YieldsList-from_rest}
use Rattle.std.proofs.lemmas.Iterator.Search.{all_from_yields_List}
use Rattle.agv_world_core.specs.declared.row.VehicleRow.{VehicleRow}
use Rattle.agv_header.specs.declared.key.VehicleKey.{VehicleKey}
use Rattle.agv_world_lawful.specs.LawfulTests.{is_vehicle_row}
use Rattle.agv_world_lawful.proofs.vehicles.are_vehicles.Goals as goal

pub returns : goal.returns
returns c =
    all_from_yields_List (λ (entry : VehicleKey × VehicleRow). is_vehicle_row c.args.seats c.args.world.now entry.1) _ _ c.all.result c.all.ensures.ran
    (YieldsList-from_rest (map.entries c.args.world.now.vehicles) c.iter.ensures) (λ x b q k. search (rules, tests))
