use Rattle.std.proofs.Common.{List, ℕ, ◌∷◌, [], ◌++◌, ◌∙◌, ap, sym}
use Rattle.agv_message_json.proofs.Appending.{same_text}
use Rattle.agv_message_json.proofs.Escapes.{escape-name}
use Rattle.agv_message_json.proofs.Readings.{name-readable}
use Rattle.agv_message_json.proofs.words.put_name_after.Goals as goal

pub returns-clause-appended : goal.returns-clause-appended
returns-clause-appended c =
    let plain = c.as_bytes.ensures.bytes ∙ sym (escape-name c.args.name.now c.as_bytes.ensures.name) in
    same_text _ _ _ _ _ (ap (λ (s : List ℕ). c.args.before.now ++ 34 ∷ (s ++ 34 ∷ [])) plain) c.put_words.ensures

pub returns-clause-readable : goal.returns-clause-readable
returns-clause-readable c = name-readable c.args.name.now c.as_bytes.ensures.name
