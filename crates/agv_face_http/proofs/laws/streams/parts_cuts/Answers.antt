use Rattle.agv_face_http.proofs.Joining.{cuts_part}
use Rattle.agv_face_http.proofs.laws.streams.parts_cuts.Goals as goal

pub returns : goal.returns
returns c = cuts_part
