use Rattle.std.proofs.Common.{List, ℕ, ◌∷◌, [], ◌++◌, ◌∙◌, ap, sym, codes}
use Rattle.json.specs.Print.{escape_byte, quoted}
use Rattle.agv_count.specs.Reports.{thing_text}
use Rattle.agv_header.specs.declared.key.Thing.{Thing}
use Rattle.agv_message_json.proofs.Appending.{same_text}
use Rattle.agv_message_json.proofs.Escapes.{escape-name}
use Rattle.agv_face_http.proofs.answers.words.put_thing.Goals as goal

pub returns-in-Node : goal.returns-in-Node
unfolding escape_byte
returns-in-Node c =
    let plain = c.as_bytes.ensures.bytes ∙ sym (escape-name c.in-Node.id c.as_bytes.ensures.name) in
    same_text _ _ _ _ _ (ap (λ (s : List ℕ). codes "\"node " ++ (s ++ 34 ∷ [])) plain ∙ ap (λ (t : Thing). quoted (thing_text t)) (sym c.in-Node.is)) c.put_words.ensures

pub returns-in-Edge : goal.returns-in-Edge
unfolding escape_byte
returns-in-Edge c =
    let plain = c.as_bytes-in-Edge.ensures.bytes ∙ sym (escape-name c.in-Edge.id c.as_bytes-in-Edge.ensures.name) in
    same_text _ _ _ _ _ (ap (λ (s : List ℕ). codes "\"edge " ++ (s ++ 34 ∷ [])) plain ∙ ap (λ (t : Thing). quoted (thing_text t)) (sym c.in-Edge.is)) c.put_words-in-Edge.ensures
