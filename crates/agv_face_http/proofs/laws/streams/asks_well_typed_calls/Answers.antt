use Rattle.agv_face_http.proofs.TypedCalls.{calls_typed}
use Rattle.agv_face_http.proofs.laws.streams.asks_well_typed_calls.Goals as goal

pub returns : goal.returns
returns c = λ requests. calls_typed c.args.at c.ms-ms.ensures.range requests
