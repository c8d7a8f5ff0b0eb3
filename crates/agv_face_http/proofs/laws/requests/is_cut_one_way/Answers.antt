use Rattle.agv_face_http.proofs.request.Cuts.{one_cut}
use Rattle.agv_face_http.proofs.laws.requests.is_cut_one_way.Goals as goal

pub returns : goal.returns
returns c = one_cut
