-- Names stand in JSON as they are: none of their bytes is escaped.
use Rattle.std.proofs.Common.{◌≡◌, ℕ, List, [], ◌∷◌, ◌++◌, true, false, refl, sym, ap, ap₂, ◌∙◌, append_assoc, codes, map}
use Rattle.std.proofs.lemmas.Grind.{flat_map-append}
use Rattle.json.specs.Print.{escape, escape_byte}
use Rattle.serde_json.specs.View.{items_of}
use Rattle.serde_json.specs.Written.{compact_text, items_text}
use Rattle.agv_header.specs.Name.{IsName}
use Rattle.agv_message_json.specs.Json.{text}
use Rattle.agv_message_json.proofs.Escapes.{escape-name}
use Rattle.agv_face_http.specs.answers.Pieces.{more_names}

-- `KIT/0001` has no escapes
pub escape-key : (m s : List ℕ) → IsName m → IsName s → escape (m ++ (codes "/" ++ s)) ≡ m ++ (codes "/" ++ s)
unfolding escape_byte
escape-key m s hm hs = flat_map-append escape_byte m (47 ∷ s) ∙ ap₂ ◌++◌ (escape-name m hm) (ap (λ (l : List ℕ). 47 ∷ l) (escape-name s hs))

-- what stands before, a vehicle, and the quote
pub key_between : (m s : List ℕ) → IsName m → IsName s → m ++ (47 ∷ (s ++ 34 ∷ [])) ≡ escape (m ++ (codes "/" ++ s)) ++ 34 ∷ []
key_between m s hm hs = sym (append_assoc m (47 ∷ s) (34 ∷ [])) ∙ ap (λ (l : List ℕ). l ++ 34 ∷ []) (sym (escape-key m s hm hs))

-- the rest of an array of names
pub more_names-items : (names : List (List ℕ)) → more_names names ++ 93 ∷ [] ≡ items_text true (items_of (map text names))
more_names-items [] = refl
more_names-items (n ∷ names) =
    append_assoc (44 ∷ compact_text (text n)) (more_names names) (93 ∷ [])
    ∙ ap (λ (l : List ℕ). 44 ∷ (compact_text (text n) ++ l)) (more_names-items names)

-- an array of names, of which this is the first
pub names_text : (first : List ℕ) (more names : List (List ℕ)) → names ≡ first ∷ more
    → (91 ∷ compact_text (text first)) ++ (more_names more ++ 93 ∷ []) ≡ 91 ∷ items_text false (items_of (map text names))
names_text first more names is =
    ap (λ (l : List ℕ). 91 ∷ (compact_text (text first) ++ l)) (more_names-items more)
    ∙ ap (λ (all : List (List ℕ)). 91 ∷ items_text false (items_of (map text all))) (sym is)
