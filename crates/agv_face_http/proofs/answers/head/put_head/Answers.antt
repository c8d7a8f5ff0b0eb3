use Rattle.std.proofs.Common.{refl}
use Rattle.agv_face_http.specs.answers.Heads.{head_text}
use Rattle.agv_message_json.proofs.Appending.{three_texts, first_refused, second_refused}
use Rattle.agv_face_http.proofs.answers.head.put_head.Goals as goal

pub returns-in_err-put_status_line : goal.returns-in_err-put_status_line
unfolding head_text
returns-in_err-put_status_line c =
    first_refused _ _ _ _ _ _ _ c.from_residual.ensures.0 c.in_err-put_status_line.ensures refl

pub returns-in_err-put_content_lines : goal.returns-in_err-put_content_lines
unfolding head_text
returns-in_err-put_content_lines c =
    second_refused _ _ _ _ _ _ _ _ _ _ c.from_residual-in_err-put_content_lines.ensures.0 c.in_ok-put_status_line.ensures c.in_err-put_content_lines.ensures refl

pub returns : goal.returns
unfolding head_text
returns c =
    three_texts _ _ _ _ _ _ _ _ _ _ _ c.in_ok-put_status_line.ensures c.in_ok-put_content_lines.ensures c.put_last_lines.ensures refl
