use Rattle.std.proofs.Common.{◌≡◌, Result, Ok, IfOk, IfErr, subst, sym}
use Rattle.agv_header.specs.declared.refusal.Refusal.{Refusal}
use Rattle.agv_message_json.specs.Body.{IsFaultOf}
use Rattle.agv_message_json.specs.State.{state_of}
use Rattle.agv_message_core.specs.declared.state.StateMessage.{StateMessage}
use Rattle.agv_face_http.proofs.bodies.Readings.{passed_on, read_on, refused_on}
use Rattle.agv_face_http.specs.bodies.StateBody.{message_in}
use Rattle.agv_face_http.proofs.bodies.state_body.message_in.Goals as goal

pub returns-in_err-value-clause-err : goal.returns-in_err-value-clause-err
unfolding message_in
returns-in_err-value-clause-err c = passed_on _ _ _ c.from_residual.ensures.1 (refused_on state_of _ _ c.in_err-value.ensures.err)

pub returns-clause-ok : goal.returns-clause-ok
unfolding message_in
returns-clause-ok c =
    subst (λ (said : Result StateMessage Refusal). IfOk c.read_state.result (λ message. said ≡ Ok message)) (sym (read_on state_of _ _ c.in_ok-value.ensures.ok)) c.read_state.ensures.ok

pub returns-clause-err : goal.returns-clause-err
unfolding message_in
returns-clause-err c =
    subst (λ (said : Result StateMessage Refusal). IfErr c.read_state.result (λ fault. IsFaultOf fault said)) (sym (read_on state_of _ _ c.in_ok-value.ensures.ok)) c.read_state.ensures.err
