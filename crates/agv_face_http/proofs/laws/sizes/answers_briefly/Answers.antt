use Rattle.agv_face_http.proofs.answers.Lengths.{brief}
use Rattle.agv_face_http.proofs.laws.sizes.answers_briefly.Goals as goal

pub returns : goal.returns
returns c = brief
