use Rattle.agv_face_http.proofs.answers.Fitting.{outcome_fits}
use Rattle.agv_face_http.proofs.laws.sizes.outcome_bytes_fit.Goals as goal

pub returns : goal.returns
returns c = outcome_fits
