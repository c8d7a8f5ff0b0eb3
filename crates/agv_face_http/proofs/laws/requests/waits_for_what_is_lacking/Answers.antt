use Rattle.agv_face_http.proofs.request.Cuts.{waits_for_no_request, waits_for_no_refusal}
use Rattle.agv_face_http.proofs.laws.requests.waits_for_what_is_lacking.Goals as goal

pub returns-clause-request : goal.returns-clause-request
returns-clause-request c = waits_for_no_request

pub returns-clause-refusal : goal.returns-clause-refusal
returns-clause-refusal c = waits_for_no_refusal
