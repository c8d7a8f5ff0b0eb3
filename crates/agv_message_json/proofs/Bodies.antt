-- What a body is, from what reading it showed.
use Rattle.std.proofs.Common.{◌≡◌, ℕ, List, Bool, true, false, cond, Some, Result, Ok, Err, refl, sym, ap, ◌∙◌}
use Rattle.std.specs.Str.{IsUtf8, is_utf8}
use Rattle.std.proofs.lemmas.Str.{IsUtf8-from_is_utf8, is_utf8-from_IsUtf8}
use Rattle.serde_json.specs.Data.{Data}
use Rattle.serde_json.specs.Read.{read}
use Rattle.serde_json.specs.Written.{has_float}
use Rattle.agv_header.specs.declared.refusal.Refusal.{Refusal}
use Rattle.agv_header.specs.declared.refusal.Refusal.TheVariants.{BadJson, Fraction}
use Rattle.agv_message_json.specs.Body.{body_of, whole_only}

-- the body by what the test for UTF-8 says
by_utf8 : (bytes : List ℕ) (b : Bool) → is_utf8 bytes ≡ b → body_of bytes ≡ cond b (whole_only (read bytes)) (Err BadJson)
by_utf8 bytes b e =
    let F : Bool → Result Data Refusal = λ x. cond x (whole_only (read bytes)) (Err BadJson) in ap F e

by_fraction : (d : Data) (b : Bool) → has_float d ≡ b → whole_only (Some d) ≡ cond b (Err Fraction) (Ok d)
by_fraction d b e = let F : Bool → Result Data Refusal = λ x. cond x (Err Fraction) (Ok d) in ap F e

-- a text that JSON's reader takes
pub text-read : (text : List ℕ) (d : Data) (b : Bool) → read text ≡ Some d → has_float d ≡ b → whole_only (read text) ≡ cond b (Err Fraction) (Ok d)
text-read text d b is f = ap whole_only is ∙ by_fraction d b f

-- bytes that are a text
pub body-text : (bytes text : List ℕ) → text ≡ bytes → IsUtf8 bytes → body_of bytes ≡ whole_only (read text)
body-text bytes text same utf8 = by_utf8 bytes true (is_utf8-from_IsUtf8 bytes utf8) ∙ ap (λ (l : List ℕ). whole_only (read l)) (sym same)

-- bytes that are a text which JSON's reader takes
pub body-read : (bytes : List ℕ) (d : Data) (b : Bool) → IsUtf8 bytes → read bytes ≡ Some d → has_float d ≡ b → body_of bytes ≡ cond b (Err Fraction) (Ok d)
body-read bytes d b utf8 is f = body-text bytes bytes refl utf8 ∙ text-read bytes d b is f

no_text_at : (bytes : List ℕ) (b : Bool) → is_utf8 bytes ≡ b → (IsUtf8 bytes → ⊥) → body_of bytes ≡ Err BadJson
no_text_at bytes true e none = absurd (none (IsUtf8-from_is_utf8 bytes e))
no_text_at bytes false e none = by_utf8 bytes false e

-- bytes that are none
pub body-no_text : (bytes : List ℕ) → (IsUtf8 bytes → ⊥) → body_of bytes ≡ Err BadJson
body-no_text bytes none = no_text_at bytes (is_utf8 bytes) refl none
