use Rattle.std.proofs.Common.{rules, tests}
use Rattle.std.specs.FinMap as map
use Rattle.std.proofs.lemmas.Iterator.Consumers.{YieldsList-from_rest}
use Rattle.std.proofs.lemmas.Iterator.Search.{any_from_yields_List}
use Rattle.agv_world_lawful.specs.LoadTests.{is_dropped_by}
use Rattle.agv_world_lawful.proofs.jobs.is_carried.Goals as goal

pub returns : goal.returns
returns c =
    any_from_yields_List (is_dropped_by c.args.job) _ _ c.any.result c.any.ensures.ran
    (YieldsList-from_rest (map.entries c.args.world.now.trips) c.iter.ensures) (λ x b q k. search (rules, tests))
