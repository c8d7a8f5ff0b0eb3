-- The pieces of which an answer is written. No public clause cites this.
use Rattle.std.specs.Prelude.{ℕ, List, ◌∷◌, map, Option}
use Rattle.std.specs.List.{flat_map}
use Rattle.serde_json.specs.Data.{Data}
use Rattle.serde_json.specs.Written.{compact_text}
use Rattle.agv_count.specs.Reports.{key_text, thing_text}
use Rattle.agv_message_core.specs.Instant.{instant_id, instant_name}
use Rattle.agv_message_json.specs.Json.{list, text, truth, whole}
use Rattle.agv_message_core.specs.declared.instant.InstantKind.{InstantKind}
use Rattle.agv_stock.specs.Phase.{phase_name}
use Rattle.agv_face_http.specs.answers.Bodies.{or_null, place_words}
use Rattle.agv_face_http.specs.answers.JobBody.{maybe_key}
use Rattle.agv_face_http.specs.declared.answers.piece.Piece.{Piece}
use Rattle.agv_face_http.specs.declared.answers.piece.Piece.TheVariants as piece

-- names as JSON strings, each after a comma
abbrev pub more_names : List (List ℕ) → List ℕ
more_names = flat_map (λ name. 44 ∷ compact_text (text name))

-- a number, or null
abbrev pub maybe_number : Option ℕ → Data
maybe_number = or_null whole

-- a name, or null
abbrev pub maybe_name : Option (List ℕ) → Data
maybe_name = or_null text

-- the name of an instant action, or null
abbrev pub maybe_kind : Option InstantKind → Data
maybe_kind = or_null (λ kind. text (instant_name kind))

-- the bytes of a piece
abbrev pub piece_text : Piece → List ℕ
piece_text (piece.Text text) = text.now
piece_text (piece.Number n) = compact_text (whole n)
piece_text (piece.Truth is_so) = compact_text (truth is_so)
piece_text (piece.Name name) = compact_text (text name.now)
piece_text (piece.Names names) = compact_text (list (map text names.now))
piece_text (piece.MaybeNumber number) = compact_text (maybe_number number)
piece_text (piece.MaybeName name) = compact_text (maybe_name name.now)
piece_text (piece.MaybeKind kind) = compact_text (maybe_kind kind)
piece_text (piece.Place place) = compact_text (text (place_words place.now))
piece_text (piece.Key key) = compact_text (text (key_text key.now))
piece_text (piece.MaybeKey key) = compact_text (maybe_key key.now)
piece_text (piece.Phase phase) = compact_text (text (phase_name phase))
piece_text (piece.Thing thing) = compact_text (text (thing_text thing.now))
piece_text (piece.ActionId n) = compact_text (text (instant_id n))
