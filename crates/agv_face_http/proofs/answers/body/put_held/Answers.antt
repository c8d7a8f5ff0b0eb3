use Rattle.std.proofs.Common.{ap, ◌∙◌}
use Rattle.json.specs.Print.{escape_byte}
use Rattle.agv_message_json.proofs.Appending.{same_text}
use Rattle.agv_face_http.proofs.answers.RefusalNames.{held_text}
use Rattle.agv_face_http.proofs.answers.body.put_held.Goals as goal

pub returns : goal.returns
unfolding escape_byte
returns c =
    same_text _ _ _ _ _ (ap (held_text c.args.what.now c.args.by.now) (c.from.ensures ∙ c.number.ensures)) c.put_pieces.ensures
