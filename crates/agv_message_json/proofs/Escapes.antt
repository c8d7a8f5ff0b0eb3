-- Names and numbers stand in JSON as they are: none of their bytes is escaped.
use Rattle.std.proofs.Common.{◌≡◌, ℕ, ◌<◌, ◌^◌, List, [], ◌∷◌, ◌++◌, true, refl, sym, ap, ap₂, ◌∙◌, arith, append_assoc, decimal}
use Rattle.std.specs.Char.{is_ascii_digit}
use Rattle.std.specs.List.{list_all}
use Rattle.std.specs.Str.{all_ascii_digits}
use Rattle.std.proofs.lemmas.Bool.{and_parts}
use Rattle.std.proofs.lemmas.Bool.Decides.{nat_tests}
use Rattle.std.proofs.lemmas.Fmt.{digits_decimal}
use Rattle.std.proofs.lemmas.Grind.{flat_map-append}
use Rattle.std.proofs.lemmas.Str.Parse.{numerals_by_value, tells_all_ascii_digits}
use Rattle.json.specs.Print.{escape, escape_byte}
use Rattle.serde_json.specs.Written.{compact_text}
use Rattle.agv_header.specs.Name.{IsName, is_name_byte}
use Rattle.agv_message_json.specs.Json.{text}
use Rattle.agv_message_core.specs.Order.{act_id}

plain_byte : (b : ℕ) → is_name_byte b ≡ true → escape_byte b ≡ b ∷ []
unfolding escape_byte
plain_byte b h = grind (arith, nat_tests)

plain_bytes : (s : List ℕ) → list_all is_name_byte s ≡ true → escape s ≡ s
plain_bytes [] h = refl
plain_bytes (b ∷ s) h = let each = and_parts _ _ h in ap₂ ◌++◌ (plain_byte b each.0) (plain_bytes s each.1)

-- a name has no escapes
pub escape-name : (s : List ℕ) → IsName s → escape s ≡ s
escape-name s h = plain_bytes s (and_parts _ _ h).1

plain_digit : (b : ℕ) → is_ascii_digit b ≡ true → escape_byte b ≡ b ∷ []
unfolding escape_byte
plain_digit b h = grind (arith, nat_tests)

plain_digits : (s : List ℕ) → all_ascii_digits s ≡ true → escape s ≡ s
plain_digits [] h = refl
plain_digits (b ∷ s) h = let each = and_parts _ _ h in ap₂ ◌++◌ (plain_digit b each.0) (plain_digits s each.1)

-- a number has no escapes
pub escape-decimal : (n : ℕ) → n < 2 ^ 64 → escape (decimal n) ≡ decimal n
escape-decimal n h = plain_digits (decimal n) (digits_decimal (numerals_by_value _ tells_all_ascii_digits) n h)

-- an action of an order between quotes
pub act_id_text : (order : List ℕ) (n : ℕ) → IsName order → n < 2 ^ 64 → 34 ∷ (order ++ (46 ∷ (decimal n ++ 34 ∷ []))) ≡ compact_text (text (act_id order n))
unfolding escape_byte
act_id_text order n h small =
    let plain : escape (act_id order n) ≡ order ++ (46 ∷ decimal n) =
    ap escape (append_assoc order (46 ∷ []) (decimal n)) ∙ flat_map-append escape_byte order (46 ∷ decimal n) ∙ ap₂ ◌++◌ (escape-name order h) (ap (λ (l : List ℕ). 46 ∷ l) (escape-decimal n small)) in
    ap (λ (l : List ℕ). 34 ∷ l) (sym (append_assoc order (46 ∷ decimal n) (34 ∷ [])) ∙ ap (λ (l : List ℕ). l ++ 34 ∷ []) (sym plain))
