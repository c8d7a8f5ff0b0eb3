use Rattle.std.proofs.Common.{refl}
use Rattle.agv_message_json.proofs.Appending.{first_refused, two_texts}
use Rattle.agv_face_http.proofs.answers.head.put_last_lines.Goals as goal

pub returns-in_err-put_allow_line : goal.returns-in_err-put_allow_line
returns-in_err-put_allow_line c = first_refused _ _ _ _ _ _ _ c.from_residual.ensures.0 c.in_err-put_allow_line.ensures refl

pub returns : goal.returns
returns c = two_texts _ _ _ _ _ _ _ _ c.in_ok-put_allow_line.ensures c.put_end.ensures refl
