-- The names that what was taken spells.
use Rattle.std.proofs.Common.{◌≡◌, ℕ, ◌≤◌, List, [], ◌∷◌, length, Some, None, Bool, true, false, cond, refl, sym, subst, ap, ◌∙◌, arith}
use Rattle.std.specs.Str.{IsUtf8}
use Rattle.std.specs.Prelude.{option_map}
use Rattle.agv_header.specs.Name.{is_name, as_name}
use Rattle.agv_face_http.specs.routing.Taken.{IsTaken, all_names, both}

none-of : (taken : List (List ℕ)) → IsTaken [] taken → Some [] ≡ all_names taken
none-of [] t = refl
none-of (s ∷ ss) t = absurd t.spelled

pub no-names : (pairs : List (List ℕ × List ℕ)) (taken : List (List ℕ)) → pairs ≡ [] → IsTaken pairs taken → Some [] ≡ all_names taken
no-names pairs taken e t = none-of taken (subst (λ z. IsTaken z taken) e t)

shown : (a s first : List ℕ) → a ≡ s → IsUtf8 s → (IsUtf8 a → first ≡ a) → first ≡ s
shown a s first e u h = h (subst IsUtf8 (sym e) u) ∙ e

one-cases : (s : List ℕ) (v : Bool) → option_map (λ n. n ∷ []) (cond v (Some s) None) ≡ cond v (Some (s ∷ [])) None
one-cases s true = refl
one-cases s false = refl

one-of : (x : List ℕ × List ℕ) (taken : List (List ℕ)) (first : List ℕ) → (IsUtf8 x.1 → first ≡ x.1) → IsTaken (x ∷ []) taken → option_map (λ n. n ∷ []) (as_name first) ≡ all_names taken
one-of x [] first h t = absurd t.spelled
one-of x (s ∷ []) first h t = ap (λ z. option_map (λ n. n ∷ []) (as_name z)) (shown x.1 s first t.spelled.0 t.texts.0 h) ∙ one-cases s (is_name s)
one-of x (s ∷ r ∷ ss) first h t = absurd t.spelled.1

pub one-name : (pairs : List (List ℕ × List ℕ)) (x : List ℕ × List ℕ) (rest : List (List ℕ × List ℕ)) (taken : List (List ℕ)) (first : List ℕ) → pairs ≡ x ∷ rest → rest ≡ [] → (IsUtf8 x.1 → first ≡ x.1) → IsTaken pairs taken → option_map (λ n. n ∷ []) (as_name first) ≡ all_names taken
one-name pairs x rest taken first e r h t = one-of x taken first h (subst (λ z. IsTaken z taken) (e ∙ ap (λ z. x ∷ z) r) t)

two-cases : (a b : List ℕ) (u v : Bool) → both (cond u (Some a) None) (cond v (Some b) None) ≡ cond u (option_map (λ names. a ∷ names) (cond v (Some (b ∷ [])) None)) None
two-cases a b true true = refl
two-cases a b true false = refl
two-cases a b false true = refl
two-cases a b false false = refl

two-of : (x y : List ℕ × List ℕ) (rest : List (List ℕ × List ℕ)) (taken : List (List ℕ)) (first second : List ℕ) → (IsUtf8 x.1 → first ≡ x.1) → (IsUtf8 y.1 → second ≡ y.1) → IsTaken (x ∷ y ∷ rest) taken → both (as_name first) (as_name second) ≡ all_names taken
two-of x y rest [] first second h g t = absurd t.spelled
two-of x y rest (a ∷ []) first second h g t = absurd t.spelled.1
two-of x y rest (a ∷ b ∷ []) first second h g t =
    ap (λ z. both (as_name z) (as_name second)) (shown x.1 a first t.spelled.0 t.texts.0 h)
    ∙ ap (λ z. both (as_name a) (as_name z)) (shown y.1 b second t.spelled.1.0 t.texts.1.0 g)
    ∙ two-cases a b (is_name a) (is_name b)
two-of x y rest (a ∷ b ∷ c ∷ ss) first second h g t = let f : length (a ∷ b ∷ c ∷ ss) ≤ 2 = t.few in absurd (omega arith)

pub two-names : (pairs : List (List ℕ × List ℕ)) (x y : List ℕ × List ℕ) (later rest : List (List ℕ × List ℕ)) (taken : List (List ℕ)) (first second : List ℕ) → pairs ≡ x ∷ later → later ≡ y ∷ rest → (IsUtf8 x.1 → first ≡ x.1) → (IsUtf8 y.1 → second ≡ y.1) → IsTaken pairs taken → both (as_name first) (as_name second) ≡ all_names taken
two-names pairs x y later rest taken first second e f h g t = two-of x y rest taken first second h g (subst (λ z. IsTaken z taken) (e ∙ ap (λ z. x ∷ z) f) t)
