use Rattle.std.proofs.Common.{ℕ, ap}
use Rattle.json.specs.Print.{escape_byte}
use Rattle.serde_json.specs.Written.{compact_text}
use Rattle.agv_face_http.specs.answers.Bodies.{update_data}
use Rattle.agv_message_json.proofs.Appending.{same_text}
use Rattle.agv_face_http.proofs.answers.body.put_update.Goals as goal

pub returns : goal.returns
unfolding escape_byte
returns c = same_text _ _ _ _ _ (ap (λ (n : ℕ). compact_text (update_data n)) c.from.ensures) c.put_pieces.ensures
