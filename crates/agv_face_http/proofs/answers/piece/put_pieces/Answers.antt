use Rattle.std.proofs.Common.{arith, ◌≤◌, ◌+◌, sym, subst, length, take}
use Rattle.std.specs.List.{flat_map}
use Rattle.std.proofs.lemmas.List.Folds.{length-flat_map-take}
use Rattle.agv_face_http.specs.answers.Pieces.{piece_text}
use Rattle.agv_face_http.specs.declared.answers.piece.Piece.{Piece}
use Rattle.agv_message_json.proofs.Appending.{refused_then}
use Rattle.agv_face_http.proofs.answers.piece.put_pieces.Goals as goal

pub returns-in_err-put_piece : goal.returns-in_err-put_piece
returns-in_err-put_piece c =
    let now = take c.loop-piece.piece-index c.args.pieces.now in
    let within : length (flat_map piece_text now) + length (piece_text c.piece-item.result) ≤ length (flat_map piece_text c.args.pieces.now) =
    subst (λ (p : Piece). length (flat_map piece_text now) + length (piece_text p) ≤ length (flat_map piece_text c.args.pieces.now)) (sym c.piece-item.is)
    (length-flat_map-take piece_text c.args.pieces.now c.loop-piece.piece-index c.piece-item.result (omega arith)) in
    refused_then _ _ _ _ _ (flat_map piece_text now) _ _ c.from_residual.ensures.0 c.loop-piece.invariant c.in_err-put_piece.ensures within
