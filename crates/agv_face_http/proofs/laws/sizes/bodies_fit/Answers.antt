use Rattle.agv_face_http.proofs.answers.Requested.{body_short}
use Rattle.agv_face_http.proofs.laws.sizes.bodies_fit.Goals as goal

pub returns : goal.returns
returns c = body_short
