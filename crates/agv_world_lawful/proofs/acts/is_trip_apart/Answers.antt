use Rattle.std.proofs.Common.{rules, tests}
use Rattle.std.specs.FinMap as map
use Rattle.std.proofs.lemmas.Iterator.Consumers.{YieldsList-from_rest}
use Rattle.std.proofs.lemmas.Iterator.Search.{all_from_yields_List}
use Rattle.agv_world_lawful.specs.LoadTests.{is_apart_from}
use Rattle.agv_world_lawful.proofs.acts.is_trip_apart.Goals as goal

pub returns : goal.returns
returns c =
    all_from_yields_List (is_apart_from (c.args.order, c.args.row.now)) _ _ c.all.result c.all.ensures.ran
    (YieldsList-from_rest (map.entries c.args.world.now.trips) c.iter.ensures) (λ x b q k. search (rules, tests))
