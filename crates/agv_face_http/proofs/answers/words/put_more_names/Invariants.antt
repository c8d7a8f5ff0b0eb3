use Rattle.std.proofs.Common.{take}
use Rattle.agv_message_json.specs.Appending.{SoFar}
use Rattle.agv_face_http.specs.answers.Pieces.{more_names}
use Rattle.agv_face_http.proofs.answers.words.put_more_names.Given as goal

abbrev pub invariant-loop-name : goal.invariant-loop-name
invariant-loop-name l = SoFar l.initial.out l.out (more_names (take l.name-index l.names))
