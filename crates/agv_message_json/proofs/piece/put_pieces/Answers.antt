use Rattle.std.proofs.Common.{All, arith, ◌≤◌, ◌+◌, sym, subst, length, take}
use Rattle.std.specs.List.{flat_map}
use Rattle.std.proofs.lemmas.List.{take_all}
use Rattle.std.proofs.lemmas.List.Elements.{All-more}
use Rattle.std.proofs.lemmas.List.Folds.{length-flat_map-take}
use Rattle.agv_message_json.specs.Pieces.{piece_text}
use Rattle.agv_message_json.specs.Readable.{PieceIsReadable}
use Rattle.agv_message_json.specs.declared.piece.Piece.{Piece}
use Rattle.agv_message_json.proofs.Appending.{refused_then, so_far_more}
use Rattle.agv_message_json.proofs.Readings.{pieces-readable}
use Rattle.agv_message_json.proofs.piece.put_pieces.Goals as goal

pub returns-in_err-put_piece-clause-appended : goal.returns-in_err-put_piece-clause-appended
returns-in_err-put_piece-clause-appended c =
    let now = take c.loop-piece.piece-index c.args.pieces.now in
    let within : length (flat_map piece_text now) + length (piece_text c.piece-item.result) ≤ length (flat_map piece_text c.args.pieces.now) =
    subst (λ (p : Piece). length (flat_map piece_text now) + length (piece_text p) ≤ length (flat_map piece_text c.args.pieces.now)) (sym c.piece-item.is)
    (length-flat_map-take piece_text c.args.pieces.now c.loop-piece.piece-index c.piece-item.result (omega arith)) in
    refused_then _ _ _ _ _ (flat_map piece_text now) _ _ c.from_residual.ensures.0 c.loop-piece.invariant.0 c.in_err-put_piece.ensures.appended within

pub returns-clause-readable : goal.returns-clause-readable
returns-clause-readable c =
    pieces-readable c.args.pieces.now (subst (All PieceIsReadable) (take_all c.loop-piece.piece-index c.args.pieces.now (omega arith)) c.loop-piece.invariant.1)

pub loop-piece-preserved : goal.loop-piece-preserved
loop-piece-preserved c = (
  so_far_more piece_text c.args.pieces.now c.loop-piece.piece-index c.piece-item.result _ c.args.out.now _ _ (omega arith) c.piece-item.is c.loop-piece.invariant.0 c.in_ok-put_piece.ensures.appended,
  All-more PieceIsReadable c.args.pieces.now c.loop-piece.piece-index c.piece-item.result (omega arith) c.loop-piece.invariant.1 (subst PieceIsReadable c.piece-item.is c.in_ok-put_piece.ensures.readable),
)
