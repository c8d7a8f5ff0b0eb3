use Rattle.agv_face_http.proofs.request.Starting.{one_start}
use Rattle.agv_face_http.proofs.laws.requests.starts_one_way.Goals as goal

pub returns : goal.returns
returns c = one_start
