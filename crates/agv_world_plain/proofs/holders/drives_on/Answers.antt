use Rattle.std.proofs.Common.{rules, tests, ◌∙◌, ◌-◌, [], ◌∷◌, List, ℕ}
use Rattle.std.specs.FinMap as map
use Rattle.std.proofs.lemmas.Iterator.{YieldsList-from_take}
use Rattle.std.proofs.lemmas.Iterator.Adapters.{YieldsList-from_skip}
use Rattle.std.proofs.lemmas.Iterator.Consumers.{YieldsList-from_filter, YieldsList-from_filter_map, YieldsList-from_rest, YieldsList-at}
use Rattle.std.proofs.lemmas.Iterator.Search.{any_from_yields_List}
use Rattle.agv_layout.specs.declared.edge.Edge.{Edge}
use Rattle.agv_track_holds.specs.Footprints.{along, released_edges}
use Rattle.agv_track_holds.specs.Holds.{is_in}
use Rattle.agv_world_core.specs.Told.{edges_of, edge_named, is_of_order, trip_in}
use Rattle.agv_world_core.specs.declared.key.LegKey.{LegKey}
use Rattle.agv_world_plain.proofs.HeldBy.{among-along}
use Rattle.agv_world_plain.proofs.holders.drives_on.Goals as goal

pub returns : goal.returns
unfolding edges_of
returns c =
    let tables = c.args.world.now in
    let thing = c.args.thing.now in
    any_from_yields_List (λ (edge : Edge). is_in thing (along (edge ∷ []))) _ _ c.any.result c.any.ensures.ran
    (YieldsList-from_take (c.args.row.now.base - c.args.row.now.seen)
    (YieldsList-at c.take.ensures.source
    (YieldsList-from_skip c.args.row.now.seen
    (YieldsList-at c.skip.ensures.source
    (YieldsList-from_filter_map _ (λ (leg : LegKey × List ℕ). edge_named tables.edges leg.1)
    (YieldsList-at c.filter_map.ensures.source
    (YieldsList-from_filter _ (is_of_order c.args.order) (YieldsList-at c.filter.ensures.source (YieldsList-from_rest (map.entries tables.legs) c.iter.ensures)) c.filter.ensures.closure (λ x b q k. search (rules, tests))))
    c.filter_map.ensures.closure (λ x r q k. search (rules, tests))))
    c.skip.ensures.count))
    (c.take.ensures.count ∙ c.saturating_sub.ensures))
    (λ x b q k. search (rules, tests))
    ∙ among-along thing (released_edges (trip_in tables (c.args.order, c.args.row.now)))
