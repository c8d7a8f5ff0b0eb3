use Rattle.agv_face_http.proofs.answers.Requested.{request_within}
use Rattle.agv_face_http.proofs.laws.sizes.answers_fit.Goals as goal

pub returns : goal.returns
returns c = request_within c.args.answer.now c.is_of_its_types.ensures
