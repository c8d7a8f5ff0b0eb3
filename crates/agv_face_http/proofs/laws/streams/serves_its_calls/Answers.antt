use Rattle.agv_face_http.proofs.Joining.{steps_of_calls}
use Rattle.agv_face_http.proofs.laws.streams.serves_its_calls.Goals as goal

pub returns : goal.returns
returns c = λ seats world at requests. steps_of_calls seats at world requests
