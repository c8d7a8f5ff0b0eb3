use Rattle.agv_face_http.proofs.Joining.{cuts_join}
use Rattle.agv_face_http.proofs.laws.streams.joins_cuts.Goals as goal

pub returns : goal.returns
returns c = cuts_join
