use Rattle.std.proofs.Common.{List, ℕ, ◌∷◌, [], ◌++◌, ◌∙◌, ap, ap₂}
use Rattle.agv_message_json.proofs.Appending.{same_text}
use Rattle.agv_face_http.proofs.answers.Escapes.{key_between}
use Rattle.agv_face_http.proofs.answers.words.put_key_after.Goals as goal

pub returns : goal.returns
returns c =
    let bytes = ap₂ (λ (m s : List ℕ). 34 ∷ (c.args.before.now ++ (m ++ (47 ∷ (s ++ 34 ∷ []))))) c.as_bytes.ensures.bytes c.as_bytes-2.ensures.bytes in
    let plain = ap (λ (l : List ℕ). 34 ∷ (c.args.before.now ++ l)) (key_between c.args.key.now.manufacturer c.args.key.now.serial c.as_bytes.ensures.name c.as_bytes-2.ensures.name) in
    same_text _ _ _ _ _ (bytes ∙ plain) c.put_words.ensures
