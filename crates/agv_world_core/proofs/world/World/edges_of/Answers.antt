use Rattle.std.proofs.Common.{rules, tests, ◌∙◌, List, ℕ}
use Rattle.std.specs.FinMap as map
use Rattle.std.proofs.lemmas.Iterator.{items_from_collect}
use Rattle.std.proofs.lemmas.Iterator.Consumers.{YieldsList-from_filter, YieldsList-from_filter_map, YieldsList-from_rest, YieldsList-at}
use Rattle.agv_world_core.specs.Told.{edges_of, edge_named, is_of_order}
use Rattle.agv_world_core.specs.declared.key.LegKey.{LegKey}
use Rattle.agv_world_core.proofs.world.World.edges_of.Goals as goal

pub returns : goal.returns
unfolding edges_of
returns c =
    let listed =
    items_from_collect _ c.collect.ensures.ran
    (YieldsList-from_filter_map _ (λ (leg : LegKey × List ℕ). edge_named c.args.self.now.edges leg.1)
    (YieldsList-at c.filter_map.ensures.source
    (YieldsList-from_filter _ (is_of_order c.args.order) (YieldsList-at c.filter.ensures.source (YieldsList-from_rest (map.entries c.args.self.now.legs) c.iter.ensures)) c.filter.ensures.closure (λ x b q k. search (rules, tests))))
    c.filter_map.ensures.closure (λ x r q k. search (rules, tests)))
    in
    c.from.ensures ∙ rw c.in_ok-edges.was at listed
