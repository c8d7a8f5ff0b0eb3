use Rattle.std.proofs.Common.{◌≡◌, ◌∷◌, []}
use Rattle.agv_message_json.specs.OrderData.{act_data}
use Rattle.agv_message_json.proofs.Appending.{three_texts, second_refused}
use Rattle.agv_message_json.proofs.Texts.{values_text}
use Rattle.agv_message_json.proofs.Readings.{all-readable, anyway, none-readable}
use Rattle.agv_message_json.proofs.order_act.put_acts.Goals as goal

pub returns-in_err-put_more_acts-in-Some-clause-appended : goal.returns-in_err-put_more_acts-in-Some-clause-appended
returns-in_err-put_more_acts-in-Some-clause-appended c =
    let is : c.args.acts.now ≡ c.in-Some.first.now ∷ c.in-Some.more.now = c.in-Some.ensures.cases.0 in
    second_refused _ _ _ _ _ _ _ _ (93 ∷ []) _ c.from_residual-in_err-put_more_acts-in-Some.ensures.0 c.in_ok-put_act-in-Some.ensures.appended c.in_err-put_more_acts-in-Some.ensures.appended (values_text (act_data c.args.order.now) _ _ _ is)

pub returns-in_ok-put_more_acts-in-Some-clause-appended : goal.returns-in_ok-put_more_acts-in-Some-clause-appended
returns-in_ok-put_more_acts-in-Some-clause-appended c =
    let is : c.args.acts.now ≡ c.in-Some.first.now ∷ c.in-Some.more.now = c.in-Some.ensures.cases.0 in
    three_texts _ _ _ _ _ _ _ _ _ _ _ c.in_ok-put_act-in-Some.ensures.appended c.in_ok-put_more_acts-in-Some.ensures.appended c.put_bytes-in-Some.ensures (values_text (act_data c.args.order.now) _ _ _ is)

pub returns-in-None-clause-readable : goal.returns-in-None-clause-readable
returns-in-None-clause-readable c = anyway _ (none-readable (act_data c.args.order.now) c.args.acts.now c.in-None.ensures.cases)

pub returns-in_ok-put_more_acts-in-Some-clause-readable : goal.returns-in_ok-put_more_acts-in-Some-clause-readable
returns-in_ok-put_more_acts-in-Some-clause-readable c =
    let is : c.args.acts.now ≡ c.in-Some.first.now ∷ c.in-Some.more.now = c.in-Some.ensures.cases.0 in
    anyway _ (all-readable (act_data c.args.order.now) c.in-Some.first.now c.in-Some.more.now c.args.acts.now is c.in_ok-put_act-in-Some.ensures.readable c.in_ok-put_more_acts-in-Some.ensures.readable)
