use Rattle.agv_face_http.proofs.answers.Fitting.{told_outcome}
use Rattle.agv_face_http.proofs.laws.sizes.tells_outcomes.Goals as goal

pub returns : goal.returns
returns c = told_outcome
