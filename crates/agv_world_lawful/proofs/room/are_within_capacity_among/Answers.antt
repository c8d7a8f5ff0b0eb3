use Rattle.std.proofs.Common.{rules, tests}
use Rattle.std.specs.FinMap as map
use Rattle.std.proofs.lemmas.Iterator.Consumers.{YieldsList-from_rest}
use Rattle.std.proofs.lemmas.Iterator.Search.{all_from_yields_List}
use Rattle.agv_header.specs.declared.key.VehicleKey.{VehicleKey}
use Rattle.agv_world_lawful.specs.LoadTests.{acts_of, is_within_capacity_among}
use Rattle.agv_world_core.specs.declared.row.VehicleRow.{VehicleRow}
use Rattle.agv_world_lawful.proofs.room.are_within_capacity_among.Goals as goal

pub returns : goal.returns
returns c =
    all_from_yields_List (λ (entry : VehicleKey × VehicleRow). is_within_capacity_among c.args.loads.now entry (acts_of c.args.world.now entry.0)) _ _ c.all.result c.all.ensures.ran
    (YieldsList-from_rest (map.entries c.args.world.now.vehicles) c.iter.ensures) (λ x b q k. search (rules, tests))
