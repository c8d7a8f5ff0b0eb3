use Rattle.std.proofs.Common.{List, map, ap}
use Rattle.serde_json.specs.Written.{compact_text}
use Rattle.agv_message_json.specs.Json.{list}
use Rattle.agv_message_json.specs.OrderData.{act_data}
use Rattle.agv_message_core.specs.declared.order.OrderAct.{OrderAct}
use Rattle.agv_message_json.proofs.Appending.{first_refused, same_text, second_refused, three_texts}
use Rattle.agv_message_json.proofs.Texts.{node_text}
use Rattle.std.proofs.Common.{subst}
use Rattle.agv_message_json.specs.Readable.{IsReadable}
use Rattle.agv_message_json.proofs.Readings.{node-readable, on_ok}
use Rattle.agv_message_json.proofs.order_node.put_node.Goals as goal

pub returns-in_err-put_front-clause-appended : goal.returns-in_err-put_front-clause-appended
returns-in_err-put_front-clause-appended c =
    first_refused _ _ _ _ _ _ _ c.from_residual.ensures.0 c.in_err-put_front.ensures (node_text c.args.before.now c.args.order.now c.args.node.now)

pub returns-in_err-put_acts-clause-appended : goal.returns-in_err-put_acts-clause-appended
returns-in_err-put_acts-clause-appended c =
    let acts = ap (λ (xs : List OrderAct). compact_text (list (map (act_data c.args.order.now) xs))) c.as_slice.ensures in
    second_refused _ _ _ _ _ _ _ _ _ _ c.from_residual-in_err-put_acts.ensures.0 c.in_ok-put_front.ensures (same_text _ _ _ _ _ acts c.in_err-put_acts.ensures.appended)
    (node_text c.args.before.now c.args.order.now c.args.node.now)

pub returns-clause-appended : goal.returns-clause-appended
returns-clause-appended c =
    let acts = ap (λ (xs : List OrderAct). compact_text (list (map (act_data c.args.order.now) xs))) c.as_slice.ensures in
    three_texts _ _ _ _ _ _ _ _ _ _ _ c.in_ok-put_front.ensures (same_text _ _ _ _ _ acts c.in_ok-put_acts.ensures.appended) c.put_end.ensures.appended
    (node_text c.args.before.now c.args.order.now c.args.node.now)

pub returns-clause-readable : goal.returns-clause-readable
returns-clause-readable c =
    let acts = subst (λ (xs : List OrderAct). IsReadable (list (map (act_data c.args.order.now) xs))) c.as_slice.ensures c.in_ok-put_acts.ensures.readable in
    on_ok _ c.put_end.ensures.readable (λ rest. node-readable c.args.order.now c.args.node.now acts rest.0 rest.1)
