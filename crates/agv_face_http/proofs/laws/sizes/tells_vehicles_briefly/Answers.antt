use Rattle.agv_face_http.proofs.answers.QuestionLengths.{vehicle_brief}
use Rattle.agv_face_http.proofs.laws.sizes.tells_vehicles_briefly.Goals as goal

pub returns : goal.returns
returns c = vehicle_brief
