use Rattle.std.proofs.Common.{rules, tests, ◌∙◌, List, ℕ}
use Rattle.std.specs.FinMap as map
use Rattle.std.proofs.lemmas.List.Sums.{length-filter}
use Rattle.std.proofs.lemmas.Iterator.Consumers.{count_from_yields_List, YieldsList-from_filter, YieldsList-from_rest, YieldsList-at}
use Rattle.agv_stock.specs.Rooms.{is_on}
use Rattle.agv_stock.specs.declared.place.Place.{Place}
use Rattle.agv_world_core.specs.Questions.{loads_on}
use Rattle.agv_world_plain.proofs.questions.loads_on.Goals as goal

pub returns : goal.returns
unfolding loads_on
returns c =
    count_from_yields_List c.filter.result _ c.count.ensures.ran
    (YieldsList-from_filter _ (λ (load : List ℕ × Place). is_on c.args.key load.1) (YieldsList-at c.filter.ensures.source (YieldsList-from_rest (map.entries c.args.world.now.loads) c.iter.ensures)) c.filter.ensures.closure (λ x b q k. search (rules, tests)))
    ∙ length-filter _ (map.entries c.args.world.now.loads)
