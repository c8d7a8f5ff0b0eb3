use Rattle.std.proofs.Common.{◌∙◌}
use Rattle.json.specs.Print.{escape_byte}
use Rattle.agv_message_json.proofs.Appending.{same_text}
use Rattle.agv_face_http.proofs.answers.RefusalNames.{escape-refusal, refusal_text}
use Rattle.agv_face_http.proofs.answers.body.put_plain_refusal.Goals as goal

pub returns : goal.returns
unfolding escape_byte
returns c =
    same_text _ _ _ _ _ (refusal_text _ _ _ _ c.name.ensures (escape-refusal c.args.refusal.now) (c.from.ensures ∙ c.number.ensures)) c.put_pieces.ensures
