use Rattle.std.proofs.Common.{take}
use Rattle.std.specs.List.{flat_map}
use Rattle.agv_message_json.specs.Appending.{SoFar}
use Rattle.agv_face_http.specs.answers.Pieces.{piece_text}
use Rattle.agv_face_http.proofs.answers.piece.put_pieces.Given as goal

abbrev pub invariant-loop-piece : goal.invariant-loop-piece
invariant-loop-piece l = SoFar l.initial.out l.out (flat_map piece_text (take l.piece-index l.pieces))
