use Rattle.json.specs.Print.{escape_byte}
use Rattle.agv_message_json.proofs.Appending.{same_text}
use Rattle.agv_message_json.proofs.Texts.{act_text}
use Rattle.agv_message_json.proofs.Readings.{act-readable, on_ok}
use Rattle.agv_message_json.proofs.order_act.put_act.Goals as goal

pub returns-clause-appended : goal.returns-clause-appended
unfolding escape_byte
returns-clause-appended c = same_text _ _ _ _ _ (act_text c.args.before.now c.args.order.now c.args.act.now _ c.name.ensures) c.put_pieces.ensures.appended

pub returns-clause-readable : goal.returns-clause-readable
returns-clause-readable c =
    on_ok _ c.put_pieces.ensures.readable
    (λ each. act-readable c.args.order.now c.args.act.now each.1.1.0 each.1.1.1.1.1.0 each.1.1.1.1.1.1.1.1.0)
