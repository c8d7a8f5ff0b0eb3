use Rattle.agv_face_http.proofs.Joining.{goes_on}
use Rattle.agv_face_http.proofs.laws.streams.hears_how_it_goes_on.Goals as goal

pub returns : goal.returns
returns c = goes_on
