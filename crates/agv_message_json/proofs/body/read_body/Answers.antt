use Rattle.std.proofs.Common.{◌≡◌, Result, Ok, IfOk, IfErr, sym, subst, ◌∙◌, true≢false}
use Rattle.std.proofs.lemmas.Str.{is_utf8-from_IsUtf8}
use Rattle.serde_json.specs.Data.{Data}
use Rattle.serde_json.specs.View.{view}
use Rattle.agv_header.specs.declared.refusal.Refusal.{Refusal}
use Rattle.agv_message_json.specs.Body.{IsFaultOf}
use Rattle.agv_message_json.proofs.Bodies.{body-text, body-no_text}
use Rattle.agv_message_json.proofs.body.read_body.Goals as goal

pub returns-in-Ok-clause-ok : goal.returns-in-Ok-clause-ok
returns-in-Ok-clause-ok c =
    let body = body-text _ _ c.in-Ok.ensures.cases.0 c.in-Ok.ensures.cases.1 in
    subst (λ (said : Result Data Refusal). IfOk c.read_text.result (λ value. said ≡ Ok (view value))) (sym body) c.read_text.ensures.ok

pub returns-in-Ok-clause-err : goal.returns-in-Ok-clause-err
returns-in-Ok-clause-err c =
    let body = body-text _ _ c.in-Ok.ensures.cases.0 c.in-Ok.ensures.cases.1 in
    subst (λ (said : Result Data Refusal). IfErr c.read_text.result (λ fault. IsFaultOf fault said)) (sym body) c.read_text.ensures.err

pub returns-in-Ok-clause-no_text : goal.returns-in-Ok-clause-no_text
returns-in-Ok-clause-no_text c none = absurd (true≢false (sym (is_utf8-from_IsUtf8 _ c.in-Ok.ensures.cases.1) ∙ none))

pub returns-in-Err-clause-err : goal.returns-in-Err-clause-err
returns-in-Err-clause-err c = body-no_text _ c.in-Err.ensures.cases.0
