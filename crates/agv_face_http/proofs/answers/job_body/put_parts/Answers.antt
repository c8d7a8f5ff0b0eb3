use Rattle.json.specs.Print.{escape_byte}
use Rattle.agv_face_http.proofs.answers.job_body.put_parts.Goals as goal

pub returns : goal.returns
unfolding escape_byte
returns c = c.put_pieces.ensures
