use Rattle.std.proofs.Common.{List, map, ap, refl}
use Rattle.serde_json.specs.Written.{compact_text}
use Rattle.agv_message_json.specs.Json.{list}
use Rattle.agv_message_json.specs.OrderData.{node_data}
use Rattle.agv_message_core.specs.declared.order.OrderNode.{OrderNode}
use Rattle.agv_message_json.specs.Pieces.{order_front}
use Rattle.agv_message_json.proofs.Appending.{first_refused, same_text, second_refused, third_refused, three_texts, two_texts}
use Rattle.agv_message_json.proofs.Texts.{order_text}
use Rattle.std.proofs.Common.{subst}
use Rattle.agv_message_json.specs.OrderData.{edge_data}
use Rattle.agv_message_json.specs.Readable.{IsReadable}
use Rattle.agv_message_core.specs.declared.order.OrderEdge.{OrderEdge}
use Rattle.agv_message_json.proofs.Readings.{on_ok, order-back}
use Rattle.agv_message_json.proofs.order_message.put_order.Goals as goal

pub returns-in_err-put_front-clause-appended : goal.returns-in_err-put_front-clause-appended
returns-in_err-put_front-clause-appended c =
    let edges = ap order_front c.as_slice.ensures in
    first_refused _ _ _ _ _ _ _ c.from_residual.ensures.0 (same_text _ _ _ _ _ edges c.in_err-put_front.ensures.appended) (order_text c.args.header.now c.args.order.now)

pub returns-in_err-put_middle-clause-appended : goal.returns-in_err-put_middle-clause-appended
returns-in_err-put_middle-clause-appended c =
    let edges = ap order_front c.as_slice.ensures in
    second_refused _ _ _ _ _ _ _ _ _ _ c.from_residual-in_err-put_middle.ensures.0 (same_text _ _ _ _ _ edges c.in_ok-put_front.ensures.appended) c.in_err-put_middle.ensures.appended
    (order_text c.args.header.now c.args.order.now)

pub returns-in_err-put_nodes-clause-appended : goal.returns-in_err-put_nodes-clause-appended
returns-in_err-put_nodes-clause-appended c =
    let edges = ap order_front c.as_slice.ensures in
    let nodes = ap (λ (ns : List OrderNode). compact_text (list (map (node_data c.args.order.now.order) ns))) c.as_slice-2.ensures in
    third_refused _ _ _ _ _ _ _ _ _ _ _ _ _ c.from_residual-in_err-put_nodes.ensures.0 (same_text _ _ _ _ _ edges c.in_ok-put_front.ensures.appended) c.in_ok-put_middle.ensures.appended
    (same_text _ _ _ _ _ nodes c.in_err-put_nodes.ensures.appended) (order_text c.args.header.now c.args.order.now)

pub returns-clause-appended : goal.returns-clause-appended
returns-clause-appended c =
    let edges = ap order_front c.as_slice.ensures in
    let nodes = ap (λ (ns : List OrderNode). compact_text (list (map (node_data c.args.order.now.order) ns))) c.as_slice-2.ensures in
    two_texts _ _ _ _ _ _ _ _ (same_text _ _ _ _ _ edges c.in_ok-put_front.ensures.appended)
    (three_texts _ _ _ _ _ _ _ _ _ _ _ c.in_ok-put_middle.ensures.appended (same_text _ _ _ _ _ nodes c.in_ok-put_nodes.ensures.appended) c.put_end.ensures.appended refl)
    (order_text c.args.header.now c.args.order.now)

pub returns-clause-reads_back : goal.returns-clause-reads_back
returns-clause-reads_back c =
    let edges = subst (λ (xs : List OrderEdge). IsReadable (list (map edge_data xs))) c.as_slice.ensures c.in_ok-put_front.ensures.readable in
    let nodes = subst (λ (xs : List OrderNode). IsReadable (list (map (node_data c.args.order.now.order) xs))) c.as_slice-2.ensures c.in_ok-put_nodes.ensures.readable in
    let middle = c.in_ok-put_middle.ensures.readable in
    on_ok _ c.put_end.ensures.readable (λ rest. order-back c.args.header.now c.args.order.now edges middle.0 middle.1 nodes rest.0 rest.1 rest.2 rest.3)
