use Rattle.std.proofs.Common.{rules, tests}
use Rattle.std.specs.FinMap as map
use Rattle.std.proofs.lemmas.Iterator.Consumers.{YieldsList-from_rest}
use Rattle.std.proofs.lemmas.Iterator.Search.{all_from_yields_List}
use Rattle.agv_world_lawful.specs.LoadTests.{is_job_row}
use Rattle.agv_world_lawful.proofs.jobs.are_jobs.Goals as goal

pub returns : goal.returns
returns c =
    all_from_yields_List (is_job_row c.args.world.now) _ _ c.all.result c.all.ensures.ran
    (YieldsList-from_rest (map.entries c.args.world.now.jobs) c.iter.ensures) (λ x b q k. search (rules, tests))
