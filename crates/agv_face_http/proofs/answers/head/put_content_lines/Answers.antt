use Rattle.std.proofs.Common.{◌≡◌, ℕ, List, ◌∷◌, ◌++◌, Option, Some, ap, sym, ◌∙◌, codes, decimal, append_assoc, option_map, Bor}
use Rattle.agv_face_http.specs.answers.Heads.{content_lines, line_end}
use Rattle.agv_message_json.proofs.Appending.{same_text}
use Rattle.agv_face_http.proofs.answers.head.put_content_lines.Goals as goal

two_lines : (kind : List ℕ) (len : ℕ)
    → codes "Content-Length: " ++ (decimal len ++ (13 ∷ 10 ∷ codes "Content-Type: " ++ (kind ++ line_end)))
    ≡ content_lines (Some kind) len
two_lines kind len = ap (λ (l : List ℕ). codes "Content-Length: " ++ l) (sym (append_assoc (decimal len) line_end (codes "Content-Type: " ++ (kind ++ line_end))))

pub returns-in-Some : goal.returns-in-Some
returns-in-Some c =
    same_text _ _ _ _ _ (two_lines c.in-Some.kind.now c.args.len ∙ ap (λ (k : Option (Bor (List ℕ))). content_lines (option_map (λ b. b.now) k) c.args.len) (sym c.in-Some.is)) c.put_pieces-in-Some.ensures
