use Rattle.std.proofs.Common.{rules, tests}
use Rattle.std.specs.FinMap as map
use Rattle.std.proofs.lemmas.Iterator.Consumers.{YieldsList-from_rest}
use Rattle.std.proofs.lemmas.Iterator.Search.{all_from_yields_List}
use Rattle.agv_world_lawful.specs.LawfulTests.{has_trip_row}
use Rattle.agv_world_lawful.proofs.trips.are_legs.Goals as goal

pub returns : goal.returns
returns c =
    all_from_yields_List (has_trip_row c.args.world.now) _ _ c.all.result c.all.ensures.ran
    (YieldsList-from_rest (map.entries c.args.world.now.legs) c.iter.ensures) (λ x b q k. search (rules, tests))
