-- Values that the JSON reader reads back from their texts.
use Rattle.std.specs.Prelude.{◌≡◌, List, [], ◌∷◌, Some, ⊤}
use Rattle.std.specs.Str.{IsUtf8}
use Rattle.json.specs.Tree.{HasNumbers}
use Rattle.serde_json.specs.Data.{Data}
use Rattle.serde_json.specs.Read.{of_json}
use Rattle.serde_json.specs.Written.{compact_text, outline}
use Rattle.agv_header.specs.Stamp.{stamp_of}
use Rattle.agv_message_core.specs.Instant.{instant_id}
use Rattle.agv_message_json.specs.Json.{text, whole}
use Rattle.agv_message_core.specs.Order.{act_id}
use Rattle.agv_message_json.specs.declared.piece.Piece.{Piece}
use Rattle.agv_message_json.specs.declared.piece.Piece.TheVariants as piece

-- the value's text is UTF-8, its numbers are JSON numbers, and reading it gives this value
pub record IsReadable (d : Data) : Type 0 where
  pub utf8 : IsUtf8 (compact_text d)
  pub numbers : HasNumbers (outline d)
  pub reads_back : of_json (outline d) ≡ Some d

-- the value of the piece is readable, if it is a number, a name, an id or a stamp
abbrev pub PieceIsReadable : Piece → Type 0
PieceIsReadable (piece.Text bytes) = ⊤
PieceIsReadable (piece.Number n) = IsReadable (whole n)
PieceIsReadable (piece.Truth is_so) = ⊤
PieceIsReadable (piece.Name name) = IsReadable (text name.now)
PieceIsReadable (piece.Kind kind) = ⊤
PieceIsReadable (piece.ActionId n) = IsReadable (text (instant_id n))
PieceIsReadable (piece.ActId order n) = IsReadable (text (act_id order.now n))
PieceIsReadable (piece.Stamp at) = IsReadable (text (stamp_of at))

-- each of the pieces is readable
abbrev pub PiecesAreReadable : List Piece → Type 0
PiecesAreReadable [] = ⊤
PiecesAreReadable (p ∷ ps) = PieceIsReadable p × PiecesAreReadable ps
