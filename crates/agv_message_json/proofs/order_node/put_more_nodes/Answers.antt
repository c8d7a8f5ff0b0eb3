use Rattle.std.proofs.Common.{All, arith, ◌≤◌, ◌+◌, sym, subst, ◌∷◌, length, take}
use Rattle.std.proofs.lemmas.List.{take_all}
use Rattle.std.proofs.lemmas.List.Elements.{All-more}
use Rattle.std.proofs.lemmas.List.Folds.{length-flat_map-take}
use Rattle.serde_json.specs.Written.{compact_text}
use Rattle.agv_message_json.specs.OrderData.{node_data}
use Rattle.agv_message_core.specs.declared.order.OrderNode.{OrderNode}
use Rattle.agv_message_json.specs.Pieces.{more_values}
use Rattle.agv_message_json.specs.Readable.{IsReadable}
use Rattle.agv_message_json.proofs.Appending.{refused_then, so_far_more}
use Rattle.agv_message_json.proofs.order_node.put_more_nodes.Goals as goal

pub returns-in_err-put_node-clause-appended : goal.returns-in_err-put_node-clause-appended
returns-in_err-put_node-clause-appended c =
    let now = take c.loop-node.node-index c.args.nodes.now in
    let within : length (more_values (node_data c.args.order.now) now) + length (44 ∷ compact_text (node_data c.args.order.now c.node-item.result)) ≤ length (more_values (node_data c.args.order.now) c.args.nodes.now) =
    subst (λ (x : OrderNode). length (more_values (node_data c.args.order.now) now) + length (44 ∷ compact_text (node_data c.args.order.now x)) ≤ length (more_values (node_data c.args.order.now) c.args.nodes.now)) (sym c.node-item.is)
    (length-flat_map-take (λ (x : OrderNode). 44 ∷ compact_text (node_data c.args.order.now x)) c.args.nodes.now c.loop-node.node-index c.node-item.result (omega arith)) in
    refused_then _ _ _ _ _ (more_values (node_data c.args.order.now) now) _ _ c.from_residual.ensures.0 c.loop-node.invariant.0 c.in_err-put_node.ensures.appended within

pub loop-node-preserved : goal.loop-node-preserved
loop-node-preserved c = (
  so_far_more (λ (x : OrderNode). 44 ∷ compact_text (node_data c.args.order.now x)) c.args.nodes.now c.loop-node.node-index c.node-item.result _ c.args.out.now _ _ (omega arith) c.node-item.is c.loop-node.invariant.0 c.in_ok-put_node.ensures.appended,
  All-more (λ (x : OrderNode). IsReadable (node_data c.args.order.now x)) c.args.nodes.now c.loop-node.node-index c.node-item.result (omega arith) c.loop-node.invariant.1
      (subst (λ (x : OrderNode). IsReadable (node_data c.args.order.now x)) c.node-item.is c.in_ok-put_node.ensures.readable),
)

pub returns-clause-readable : goal.returns-clause-readable
returns-clause-readable c =
    subst (All (λ (x : OrderNode). IsReadable (node_data c.args.order.now x))) (take_all c.loop-node.node-index c.args.nodes.now (omega arith)) c.loop-node.invariant.1
