use Rattle.std.proofs.Common.{All, arith, ◌≤◌, ◌+◌, sym, subst, ◌∷◌, length, take}
use Rattle.std.proofs.lemmas.List.{take_all}
use Rattle.std.proofs.lemmas.List.Elements.{All-more}
use Rattle.std.proofs.lemmas.List.Folds.{length-flat_map-take}
use Rattle.serde_json.specs.Written.{compact_text}
use Rattle.agv_message_json.specs.OrderData.{edge_data}
use Rattle.agv_message_core.specs.declared.order.OrderEdge.{OrderEdge}
use Rattle.agv_message_json.specs.Pieces.{more_values}
use Rattle.agv_message_json.specs.Readable.{IsReadable}
use Rattle.agv_message_json.proofs.Appending.{refused_then, so_far_more}
use Rattle.agv_message_json.proofs.order_edge.put_more_edges.Goals as goal

pub returns-in_err-put_edge-clause-appended : goal.returns-in_err-put_edge-clause-appended
returns-in_err-put_edge-clause-appended c =
    let now = take c.loop-edge.edge-index c.args.edges.now in
    let within : length (more_values edge_data now) + length (44 ∷ compact_text (edge_data c.edge-item.result)) ≤ length (more_values edge_data c.args.edges.now) =
    subst (λ (x : OrderEdge). length (more_values edge_data now) + length (44 ∷ compact_text (edge_data x)) ≤ length (more_values edge_data c.args.edges.now)) (sym c.edge-item.is)
    (length-flat_map-take (λ (x : OrderEdge). 44 ∷ compact_text (edge_data x)) c.args.edges.now c.loop-edge.edge-index c.edge-item.result (omega arith)) in
    refused_then _ _ _ _ _ (more_values edge_data now) _ _ c.from_residual.ensures.0 c.loop-edge.invariant.0 c.in_err-put_edge.ensures.appended within

pub loop-edge-preserved : goal.loop-edge-preserved
loop-edge-preserved c = (
  so_far_more (λ (x : OrderEdge). 44 ∷ compact_text (edge_data x)) c.args.edges.now c.loop-edge.edge-index c.edge-item.result _ c.args.out.now _ _ (omega arith) c.edge-item.is c.loop-edge.invariant.0 c.in_ok-put_edge.ensures.appended,
  All-more (λ (x : OrderEdge). IsReadable (edge_data x)) c.args.edges.now c.loop-edge.edge-index c.edge-item.result (omega arith) c.loop-edge.invariant.1
      (subst (λ (x : OrderEdge). IsReadable (edge_data x)) c.edge-item.is c.in_ok-put_edge.ensures.readable),
)

pub returns-clause-readable : goal.returns-clause-readable
returns-clause-readable c =
    subst (All (λ (x : OrderEdge). IsReadable (edge_data x))) (take_all c.loop-edge.edge-index c.args.edges.now (omega arith)) c.loop-edge.invariant.1
