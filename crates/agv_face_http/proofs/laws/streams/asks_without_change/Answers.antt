use Rattle.agv_face_http.proofs.Joining.{only_asking_leaves}
use Rattle.agv_face_http.proofs.laws.streams.asks_without_change.Goals as goal

pub returns : goal.returns
returns c = λ seats world at request. only_asking_leaves seats at world (λ made tells. (c.tells_without_change.ensures seats world at made tells).0) request
