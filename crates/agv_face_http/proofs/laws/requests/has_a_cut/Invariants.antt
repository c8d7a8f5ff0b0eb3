use Rattle.std.proofs.Common.{length}
use Rattle.agv_face_http.proofs.request.Cuts.{HasCut}
use Rattle.agv_face_http.proofs.laws.requests.has_a_cut.Given as goal

-- where what is left has a cut, the input has one
abbrev pub invariant-loop-request : goal.invariant-loop-request
invariant-loop-request l = HasCut l.rest → HasCut l.initial.input

abbrev pub decreases-loop-request : goal.decreases-loop-request
decreases-loop-request l = length l.rest
