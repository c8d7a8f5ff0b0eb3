use Rattle.agv_face_http.proofs.Joining.{refused_leaves}
use Rattle.agv_face_http.proofs.laws.streams.refuses_without_change.Goals as goal

pub returns : goal.returns
returns c = λ seats world at request why is. refused_leaves seats at world request why is
