use Rattle.agv_face_http.proofs.answers.Fitting.{text_within}
use Rattle.agv_face_http.proofs.laws.sizes.outcomes_fit.Goals as goal

pub returns : goal.returns
returns c = text_within c.args.answer.now c.is_of_its_types.ensures
