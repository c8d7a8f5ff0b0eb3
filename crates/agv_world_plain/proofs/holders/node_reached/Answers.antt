use Rattle.std.proofs.Common.{rules, tests, ◌≡◌, ◌-◌, ℕ, List, Some, None, option_map, ap, sym, ◌∙◌}
use Rattle.std.specs.FinMap as map
use Rattle.std.specs.List.{slice_get}
use Rattle.std.proofs.lemmas.Iterator.Consumers.{YieldsList-from_filter, YieldsList-from_filter_map, YieldsList-from_rest, YieldsList-at, nth_from_yields_List}
use Rattle.agv_world_core.specs.Told.{edges_of, edge_named, is_of_order}
use Rattle.agv_world_core.specs.declared.key.LegKey.{LegKey}
use Rattle.agv_world_plain.proofs.HeldBy.{node_past}
use Rattle.agv_world_plain.proofs.holders.node_reached.Goals as goal

pub returns-in_err-edge : goal.returns-in_err-edge
unfolding edges_of
returns-in_err-edge c =
    let tables = c.args.world.now in
    let row = c.args.row.now in
    let found =
    nth_from_yields_List c.nth.result _ (row.seen - 1) c.nth.ensures.ran
    (YieldsList-from_filter_map _ (λ (leg : LegKey × List ℕ). edge_named tables.edges leg.1)
    (YieldsList-at c.filter_map.ensures.source
    (YieldsList-from_filter _ (is_of_order c.args.order) (YieldsList-at c.filter.ensures.source (YieldsList-from_rest (map.entries tables.legs) c.iter.ensures)) c.filter.ensures.closure (λ x b q k. search (rules, tests))))
    c.filter_map.ensures.closure (λ x r q k. search (rules, tests)))
    in
    let is : None ≡ slice_get (edges_of tables c.args.order) (row.seen - 1) = sym (ap (option_map (λ x. x)) c.in_err-edge.was) ∙ found in
    c.from_residual.ensures ∙ node_past row.start (edges_of tables c.args.order) row.seen None c.if-row-eq0.false is

pub returns : goal.returns
unfolding edges_of
returns c =
    let tables = c.args.world.now in
    let row = c.args.row.now in
    let found =
    nth_from_yields_List c.nth.result _ (row.seen - 1) c.nth.ensures.ran
    (YieldsList-from_filter_map _ (λ (leg : LegKey × List ℕ). edge_named tables.edges leg.1)
    (YieldsList-at c.filter_map.ensures.source
    (YieldsList-from_filter _ (is_of_order c.args.order) (YieldsList-at c.filter.ensures.source (YieldsList-from_rest (map.entries tables.legs) c.iter.ensures)) c.filter.ensures.closure (λ x b q k. search (rules, tests))))
    c.filter_map.ensures.closure (λ x r q k. search (rules, tests)))
    in
    let is : Some c.in_ok-edge.edge ≡ slice_get (edges_of tables c.args.order) (row.seen - 1) = sym (ap (option_map (λ x. x)) c.in_ok-edge.was) ∙ found in
    node_past row.start (edges_of tables c.args.order) row.seen (Some c.in_ok-edge.edge) c.if-row-eq0.false is
