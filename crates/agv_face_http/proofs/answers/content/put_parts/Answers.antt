use Rattle.std.proofs.Common.{ℕ, List, [], ◌++◌, ◌-◌, ap, arith, length, length-append}
use Rattle.agv_face_http.specs.answers.Answers.{answer_content, answer_text, content_text}
use Rattle.agv_face_http.specs.answers.Given.{head_of}
use Rattle.agv_message_json.proofs.Appending.{nothing_yet, refused_then}
use Rattle.agv_face_http.proofs.answers.Turning.{len_of_two, second_unturned, two_turned}
use Rattle.agv_face_http.proofs.answers.content.put_parts.Goals as goal

pub turn-requires : goal.turn-requires
turn-requires c =
    let body = content_text (answer_content c.args.answer.now) in
    let head = head_of c.args.answer.now (c.len.result - c.len-start.result) c.args.close in
    let lens = len_of_two c.args.out.now c.put_content.new.out c.put_head_of.new.out body head c.in_ok-put_content.ensures.whole c.in_ok-put_head_of.ensures.whole in
    omega (arith, lens.0, lens.1, c.len-start.ensures, c.len.ensures)

pub returns-in_err-put_content : goal.returns-in_err-put_content
unfolding answer_text
returns-in_err-put_content c =
    let body : List ℕ = content_text (answer_content c.args.answer.now) in
    let head : List ℕ = head_of c.args.answer.now (length body) c.args.close in
    refused_then _ _ _ _ _ [] body (head ++ body) c.from_residual.ensures.0 (nothing_yet c.args.out.now) c.in_err-put_content.ensures (omega (arith, length-append head body))

pub returns-in_err-put_head_of : goal.returns-in_err-put_head_of
unfolding answer_text
returns-in_err-put_head_of c =
    second_unturned _ _ _ _ _ _ _ (λ (n : ℕ). head_of c.args.answer.now n c.args.close) _ _ c.from_residual-in_err-put_head_of.ensures.0 c.len-start.ensures
    (ap (λ (n : ℕ). n - c.len-start.result) c.len.ensures) c.in_ok-put_content.ensures c.in_err-put_head_of.ensures

pub returns : goal.returns
unfolding answer_text
returns c =
    two_turned _ _ _ _ _ _ _ (λ (n : ℕ). head_of c.args.answer.now n c.args.close) _ _ c.len-start.ensures (ap (λ (n : ℕ). n - c.len-start.result) c.len.ensures) c.in_ok-put_content.ensures c.in_ok-put_head_of.ensures c.turn.ensures.items c.turn.ensures.capacity
