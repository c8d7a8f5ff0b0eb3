-- Topics taken apart at their slashes.
use Rattle.std.proofs.Common.{arith, ℕ, zero, suc, ◌≡◌, ◌≢◌, ◌<◌, ◌++◌, true, List, [], ◌∷◌, length, get_or, drop, ap, ◌∙◌, append_assoc, codes}
use Rattle.std.specs.List.{list_all}
use Rattle.std.proofs.lemmas.Bool.{and_parts}
use Rattle.std.proofs.lemmas.Bool.Decides.{nat_tests}
use Rattle.agv_header.specs.Name.{is_name_byte, IsName}
use Rattle.agv_header.specs.Topic.{with_levels}

no_slash_byte : (b : ℕ) → is_name_byte b ≡ true → b ≢ 47
no_slash_byte b h e = absurd (grind (arith, nat_tests))

no_slash_in : (s : List ℕ) → list_all is_name_byte s ≡ true → (i : ℕ) → i < length s → get_or s i 0 ≢ 47
no_slash_in [] h i within = absurd (omega arith)
no_slash_in (b ∷ s) h zero within = no_slash_byte b (and_parts _ _ h).0
no_slash_in (b ∷ s) h (suc i) within = no_slash_in s (and_parts _ _ h).1 i (omega arith)

-- a name has no slash
pub name_no_slash : (s : List ℕ) → IsName s → (i : ℕ) → i < length s → get_or s i 0 ≢ 47
name_no_slash s h = no_slash_in s (and_parts _ _ h).1

-- what follows the prefix of a topic, as far as its first slash
pub after_prefix : (text rest manufacturer serial name : List ℕ) (start : ℕ) → start ≡ 8 → rest ≡ drop start text
    → text ≡ with_levels manufacturer serial name → rest ≡ manufacturer ++ 47 ∷ (serial ++ 47 ∷ name)
after_prefix text rest manufacturer serial name start eight e levels =
    let cut : drop 8 text ≡ manufacturer ++ codes "/" ++ serial ++ codes "/" ++ name = ap (drop 8) levels in
    e ∙ ap (λ (n : ℕ). drop n text) eight ∙ cut ∙ simp append_assoc

-- a text put together again
pub joined : (text rest manufacturer more serial name : List ℕ) → text ≡ codes "uagv/v2/" ++ rest
    → rest ≡ manufacturer ++ 47 ∷ more → more ≡ serial ++ 47 ∷ name → text ≡ with_levels manufacturer serial name
joined text rest manufacturer more serial name first second third =
    let parts : rest ≡ manufacturer ++ 47 ∷ (serial ++ 47 ∷ name) = second ∙ ap (λ (l : List ℕ). manufacturer ++ 47 ∷ l) third in
    let flat : manufacturer ++ 47 ∷ (serial ++ 47 ∷ name) ≡ manufacturer ++ codes "/" ++ serial ++ codes "/" ++ name = simp append_assoc in
    first ∙ ap (λ (l : List ℕ). codes "uagv/v2/" ++ l) (parts ∙ flat)
