use Rattle.std.proofs.Common.{◌∙◌}
use Rattle.std.proofs.Math.Path.{ap₂}
use Rattle.json.specs.Print.{escape_byte}
use Rattle.agv_message_json.proofs.Appending.{same_text}
use Rattle.agv_face_http.proofs.answers.RefusalNames.{wrong_update_text}
use Rattle.agv_face_http.proofs.answers.body.put_wrong_update.Goals as goal

pub returns : goal.returns
unfolding escape_byte
returns c =
    same_text _ _ _ _ _ (ap₂ wrong_update_text (c.from.ensures ∙ c.number.ensures) c.from-2.ensures) c.put_pieces.ensures
