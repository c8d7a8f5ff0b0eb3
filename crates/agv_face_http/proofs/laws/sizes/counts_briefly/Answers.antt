use Rattle.agv_face_http.proofs.answers.Lengths.{counted_brief}
use Rattle.agv_face_http.proofs.laws.sizes.counts_briefly.Goals as goal

pub returns : goal.returns
returns c = counted_brief
