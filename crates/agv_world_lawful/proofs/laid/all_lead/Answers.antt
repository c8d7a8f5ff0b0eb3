use Rattle.std.proofs.Common.{rules, tests, List, ℕ}
use Rattle.std.specs.FinMap as map
use Rattle.std.proofs.lemmas.Iterator.Consumers.{YieldsList-from_rest}
use Rattle.std.proofs.lemmas.Iterator.Search.{all_from_yields_List}
use Rattle.agv_layout.specs.declared.edge.EdgeEnds.{EdgeEnds}
use Rattle.agv_world_lawful.specs.LawfulTests.{does_lead}
use Rattle.agv_world_lawful.proofs.laid.all_lead.Goals as goal

pub returns : goal.returns
returns c =
    all_from_yields_List (λ (edge : List ℕ × EdgeEnds). does_lead c.args.world.now edge.1) _ _ c.all.result c.all.ensures.ran
    (YieldsList-from_rest (map.entries c.args.world.now.edges) c.iter.ensures) (λ x b q k. search (rules, tests))
