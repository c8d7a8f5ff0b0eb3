use Rattle.std.proofs.Common.{Some, sym, ap, ◌∙◌}
use Rattle.agv_message_json.proofs.Arrays.{after-all, after-none, after-read, after-unread}
use Rattle.agv_face_http.specs.bodies.OrderBody.{stop_in}
use Rattle.agv_face_http.proofs.bodies.order_body.stops_in.Goals as goal

pub loop-value-init : goal.loop-value-init
loop-value-init c = after-none _ _ c.new-stops.ensures.items

pub loop-value-preserved : goal.loop-value-preserved
loop-value-preserved c =
    after-read stop_in _ _ _ _ _ _ _ c.loop-value-test.true c.value-item.is (sym c.in-Some.is ∙ c.stop_in.ensures) c.in_ok-push.ensures.items c.loop-value.invariant

pub returns-in_default : goal.returns-in_default
returns-in_default c =
    sym (after-unread stop_in _ _ _ _ _ c.loop-value-test.true c.value-item.is (sym c.in_default.is ∙ c.stop_in.ensures) c.loop-value.invariant)

pub returns : goal.returns
returns c = ap Some c.into.ensures ∙ after-all stop_in _ _ _ _ c.loop-value-test.false c.loop-value.invariant
