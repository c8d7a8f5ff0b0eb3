use Rattle.agv_face_http.proofs.request.Starting.{told_start}
use Rattle.agv_face_http.proofs.laws.requests.hears_the_start.Goals as goal

pub returns : goal.returns
returns c = told_start
