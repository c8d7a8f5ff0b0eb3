-- The first segment of a path, and what comes after it.
use Rattle.std.proofs.Common.{◌≡◌, ℕ, zero, suc, ◌-◌, ◌≤◌, List, [], ◌∷◌, length, drop, Bool, true, false, cond, ◌&&◌, refl, sym, ap, ◌∙◌, arith, nat_eq, ◌==◌, ltb}
use Rattle.std.proofs.lemmas.Bool.Decides.{nat_tests}
use mathlib.Core.Bool.{true≢false}
use Rattle.std.specs.Cmp.Lexicographic.{pointwise}
use Rattle.matchit.specs.Seek.{segment, has_slash, cuts}

-- the path after its first segment
abbrev pub after_segment : List ℕ → List ℕ
after_segment [] = []
after_segment (b ∷ p) = cond (b == 47) (b ∷ p) (after_segment p)

pub length-after_segment : (p : List ℕ) → length (after_segment p) ≤ length p
length-after_segment [] = omega arith
length-after_segment (b ∷ p) = by (b == 47) (length-after_segment p)
  where
    by : (v : Bool) → length (after_segment p) ≤ length p → length (cond v (b ∷ p) (after_segment p)) ≤ length (b ∷ p)
    by true h = omega arith
    by false h = omega arith

-- where a segment ends at a slash
pub record Slashed (p : List ℕ) : Type 0 where
  pub n : ℕ
  pub rest : List ℕ
  pub len : length (segment p) ≡ suc n
  pub front : drop n p ≡ after_segment p
  pub last : drop n (segment p) ≡ 47 ∷ []
  pub after : after_segment p ≡ 47 ∷ rest

later-slash : (b : ℕ) (p : List ℕ) → (b == 47) ≡ false → Slashed p → Slashed (b ∷ p)
later-slash b p e s =
    record {
      n = suc s.n;
      rest = s.rest;
      len = rw e (ap suc s.len);
      front = rw e s.front;
      last = rw e s.last;
      after = rw e s.after;
    }

pub slashed : (p : List ℕ) → has_slash p ≡ true → Slashed p
slashed [] h = absurd (true≢false (sym h))
slashed (b ∷ p) h = by (b == 47) refl (slashed p)
  where
    by : (v : Bool) → (b == 47) ≡ v → (has_slash p ≡ true → Slashed p) → Slashed (b ∷ p)
    by true e later =
        let is : b ≡ 47 = grind (arith, nat_tests) in
        record {
          n = 0;
          rest = p;
          len = rw e refl;
          front = rw e refl;
          last = rw e (ap (λ x. x ∷ []) is);
          after = rw e (ap (λ x. x ∷ p) is);
        }
    by false e later = later-slash b p e (later (sym (ap (λ v. cond v true (has_slash p)) e) ∙ h))

-- a text with no slash is one segment
pub whole : (p : List ℕ) → has_slash p ≡ false → (segment p ≡ p) × (after_segment p ≡ [])
whole [] h = (refl, refl)
whole (b ∷ p) h = by (b == 47) refl (whole p)
  where
    by : (v : Bool) → (b == 47) ≡ v → (has_slash p ≡ false → (segment p ≡ p) × (after_segment p ≡ [])) → (segment (b ∷ p) ≡ b ∷ p) × (after_segment (b ∷ p) ≡ [])
    by true e later = absurd (true≢false (sym (ap (λ v. cond v true (has_slash p)) e) ∙ h))
    by false e later =
        let w = later (sym (ap (λ v. cond v true (has_slash p)) e) ∙ h) in
        (rw e (ap (λ q. b ∷ q) w.0), rw e w.1)

pub no-slash-drop : (k : ℕ) (p : List ℕ) → has_slash p ≡ false → pointwise nat_eq (47 ∷ []) (drop k p) ≡ false
no-slash-drop zero [] h = refl
no-slash-drop (suc k) [] h = refl
no-slash-drop zero (b ∷ p) h = by (b == 47) refl
  where
    by : (v : Bool) → (b == 47) ≡ v → pointwise nat_eq (47 ∷ []) (b ∷ p) ≡ false
    by true e = absurd (true≢false (sym (ap (λ v. cond v true (has_slash p)) e) ∙ h))
    by false e = let n : (47 == b) ≡ false = grind (arith, nat_tests) in rw n refl
no-slash-drop (suc k) (b ∷ p) h = by (b == 47) refl (no-slash-drop k p)
  where
    by : (v : Bool) → (b == 47) ≡ v → (has_slash p ≡ false → pointwise nat_eq (47 ∷ []) (drop k p) ≡ false) → pointwise nat_eq (47 ∷ []) (drop k p) ≡ false
    by true e later = absurd (true≢false (sym (ap (λ v. cond v true (has_slash p)) e) ∙ h))
    by false e later = later (sym (ap (λ v. cond v true (has_slash p)) e) ∙ h)

pub and-false : (v : Bool) → (v && false) ≡ false
and-false true = refl
and-false false = refl

pub drop-whole : (p : List ℕ) (n : ℕ) → length p ≤ n → drop n p ≡ []
drop-whole [] zero h = refl
drop-whole [] (suc n) h = refl
drop-whole (b ∷ p) zero h = absurd (omega arith)
drop-whole (b ∷ p) (suc n) h = drop-whole p n (omega arith)

-- the segment of a slash ends with it, and has a byte before it
pub cuts-slash : (b : ℕ) (p : List ℕ) → Slashed p → cuts (b ∷ segment p) (47 ∷ []) ≡ true
cuts-slash b p s =
    let l : ltb 1 (length (b ∷ segment p)) ≡ true = rw s.len (grind (arith, nat_tests)) in
    let n : length (b ∷ segment p) - 1 ≡ suc s.n = rw s.len (omega arith) in
    let d : drop (length (b ∷ segment p) - 1) (b ∷ segment p) ≡ 47 ∷ [] = rw n s.last in
    rw (l, d) refl
