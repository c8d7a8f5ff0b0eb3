use Rattle.std.proofs.Common.{rules, tests, ◌∙◌, List, ℕ}
use Rattle.std.specs.FinMap as map
use Rattle.std.proofs.lemmas.Iterator.Consumers.{count_from_yields_List, YieldsList-from_filter, YieldsList-from_rest, YieldsList-at}
use Rattle.std.proofs.lemmas.List.Sums.{length-filter}
use Rattle.agv_world_core.specs.Questions.{reserved, is_live_to}
use Rattle.agv_world_core.specs.declared.row.JobRow.{JobRow}
use Rattle.agv_world_plain.proofs.questions.reserved.Goals as goal

pub returns : goal.returns
unfolding reserved
returns c =
    count_from_yields_List c.filter.result _ c.count.ensures.ran
    (YieldsList-from_filter _ (λ (job : List ℕ × JobRow). is_live_to c.args.station job.1) (YieldsList-at c.filter.ensures.source (YieldsList-from_rest (map.entries c.args.world.now.jobs) c.iter.ensures)) c.filter.ensures.closure (λ x b q k. search (rules, tests)))
    ∙ length-filter _ (map.entries c.args.world.now.jobs)
