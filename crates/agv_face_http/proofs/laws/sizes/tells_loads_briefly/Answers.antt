use Rattle.agv_face_http.proofs.answers.QuestionLengths.{load_brief}
use Rattle.agv_face_http.proofs.laws.sizes.tells_loads_briefly.Goals as goal

pub returns : goal.returns
returns c = load_brief
