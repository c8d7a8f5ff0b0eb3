use Rattle.std.proofs.Common.{All, arith, ◌≤◌, ◌+◌, sym, subst, ◌∷◌, length, take}
use Rattle.std.proofs.lemmas.List.{take_all}
use Rattle.std.proofs.lemmas.List.Elements.{All-more}
use Rattle.std.proofs.lemmas.List.Folds.{length-flat_map-take}
use Rattle.serde_json.specs.Written.{compact_text}
use Rattle.agv_message_json.specs.OrderData.{act_data}
use Rattle.agv_message_core.specs.declared.order.OrderAct.{OrderAct}
use Rattle.agv_message_json.specs.Pieces.{more_values}
use Rattle.agv_message_json.specs.Readable.{IsReadable}
use Rattle.agv_message_json.proofs.Appending.{refused_then, so_far_more}
use Rattle.agv_message_json.proofs.order_act.put_more_acts.Goals as goal

pub returns-in_err-put_act-clause-appended : goal.returns-in_err-put_act-clause-appended
returns-in_err-put_act-clause-appended c =
    let now = take c.loop-act.act-index c.args.acts.now in
    let within : length (more_values (act_data c.args.order.now) now) + length (44 ∷ compact_text (act_data c.args.order.now c.act-item.result)) ≤ length (more_values (act_data c.args.order.now) c.args.acts.now) =
    subst (λ (x : OrderAct). length (more_values (act_data c.args.order.now) now) + length (44 ∷ compact_text (act_data c.args.order.now x)) ≤ length (more_values (act_data c.args.order.now) c.args.acts.now)) (sym c.act-item.is)
    (length-flat_map-take (λ (x : OrderAct). 44 ∷ compact_text (act_data c.args.order.now x)) c.args.acts.now c.loop-act.act-index c.act-item.result (omega arith)) in
    refused_then _ _ _ _ _ (more_values (act_data c.args.order.now) now) _ _ c.from_residual.ensures.0 c.loop-act.invariant.0 c.in_err-put_act.ensures.appended within

pub loop-act-preserved : goal.loop-act-preserved
loop-act-preserved c = (
  so_far_more (λ (x : OrderAct). 44 ∷ compact_text (act_data c.args.order.now x)) c.args.acts.now c.loop-act.act-index c.act-item.result _ c.args.out.now _ _ (omega arith) c.act-item.is c.loop-act.invariant.0 c.in_ok-put_act.ensures.appended,
  All-more (λ (x : OrderAct). IsReadable (act_data c.args.order.now x)) c.args.acts.now c.loop-act.act-index c.act-item.result (omega arith) c.loop-act.invariant.1
      (subst (λ (x : OrderAct). IsReadable (act_data c.args.order.now x)) c.act-item.is c.in_ok-put_act.ensures.readable),
)

pub returns-clause-readable : goal.returns-clause-readable
returns-clause-readable c =
    subst (All (λ (x : OrderAct). IsReadable (act_data c.args.order.now x))) (take_all c.loop-act.act-index c.args.acts.now (omega arith)) c.loop-act.invariant.1
