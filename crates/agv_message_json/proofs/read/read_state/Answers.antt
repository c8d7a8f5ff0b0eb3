use Rattle.std.proofs.Common.{◌≡◌, Result, Ok, IfOk, IfErr, refl, subst, sym, ◌∙◌}
use Rattle.agv_header.specs.declared.refusal.Refusal.{Refusal}
use Rattle.agv_message_json.specs.Body.{IsFaultOf}
use Rattle.agv_message_core.specs.declared.state.StateMessage.{StateMessage}
use Rattle.agv_message_json.proofs.States.{state_of-not_located}
use Rattle.agv_message_json.proofs.read.read_state.Goals as goal

pub returns-clause-ok : goal.returns-clause-ok
returns-clause-ok c =
    let judged = state_of-not_located _ (sym c.has_position-is_located.ensures ∙ c.if-is_located.false) in
    subst (λ (said : Result StateMessage Refusal). IfOk c.read_located.result (λ message. said ≡ Ok message)) (sym judged) c.read_located.ensures.ok

pub returns-clause-err : goal.returns-clause-err
returns-clause-err c =
    let judged = state_of-not_located _ (sym c.has_position-is_located.ensures ∙ c.if-is_located.false) in
    subst (λ (said : Result StateMessage Refusal). IfErr c.read_located.result (λ fault. IsFaultOf fault said)) (sym judged) c.read_located.ensures.err

pub returns-then-is_located-clause-position : goal.returns-then-is_located-clause-position
returns-then-is_located-clause-position c located = refl
