-- Which paths fit the tokens of a pattern.
use Rattle.std.proofs.Common.{◌≡◌, ℕ, ◌<◌, List, [], ◌∷◌, Bool, true, false, cond, not, ◌&&◌, refl, arith, ◌==◌}
use Rattle.std.proofs.lemmas.Bool.Decides.{nat_tests}
use Rattle.agv_face_http.proofs.routing.Segments.{after_segment}

-- a byte stands first, and it is no slash
abbrev pub is_open : List ℕ → Bool
is_open [] = false
is_open (b ∷ p) = not (b == 47)

-- the first byte is this one
abbrev pub begins : ℕ → List ℕ → Bool
begins x [] = false
begins x (b ∷ p) = x == b

abbrev pub tail : List ℕ → List ℕ
tail [] = []
tail (b ∷ p) = p

abbrev pub is_nil : List ℕ → Bool
is_nil [] = true
is_nil (b ∷ p) = false

-- the path fits these tokens: a parameter takes a whole segment that isn't empty
abbrev pub fits : List ℕ → List ℕ → Bool
fits [] p = is_nil p
fits (x ∷ t) p = cond (x == 256) (is_open p && fits t (after_segment p)) (begins x p && fits t (tail p))

-- after a parameter comes a slash or the end, and there is no catch-all
abbrev pub IsGood : List ℕ → Type 0
IsGood [] = Unit {0}
IsGood (x ∷ []) = x < 257
IsGood (x ∷ y ∷ t) = (x < 257) × (x ≡ 256 → y ≡ 47) × IsGood (y ∷ t)

pub IsGood-tail : (x : ℕ) (t : List ℕ) → IsGood (x ∷ t) → IsGood t
IsGood-tail x [] h = tt
IsGood-tail x (y ∷ t) h = h.2

pub IsGood-token : (x : ℕ) (t : List ℕ) → IsGood (x ∷ t) → x < 257
IsGood-token x [] h = h
IsGood-token x (y ∷ t) h = h.0

-- each byte of a path is one
abbrev pub AreBytes : List ℕ → Type 0
AreBytes [] = Unit {0}
AreBytes (b ∷ p) = (b < 256) × AreBytes p

pub AreBytes-after : (p : List ℕ) → AreBytes p → AreBytes (after_segment p)
AreBytes-after [] h = tt
AreBytes-after (b ∷ p) h = by (b == 47) (AreBytes-after p h.1)
  where
    by : (v : Bool) → AreBytes (after_segment p) → AreBytes (cond v (b ∷ p) (after_segment p))
    by true g = h
    by false g = g

pub fits-none : (x : ℕ) (t : List ℕ) → fits (x ∷ t) [] ≡ false
fits-none x t = by (x == 256)
  where
    by : (v : Bool) → cond v false false ≡ false
    by true = refl
    by false = refl

pub fits-byte : (x b : ℕ) (t p : List ℕ) → b < 256 → (x == b) ≡ true → fits (x ∷ t) (b ∷ p) ≡ fits t p
fits-byte x b t p l e =
    let n : (x == 256) ≡ false = grind (arith, nat_tests) in
    rw (n, e) refl

pub fits-param : (x b : ℕ) (t p : List ℕ) → (b == 47) ≡ false → (x == 256) ≡ true → fits (x ∷ t) (b ∷ p) ≡ fits t (after_segment p)
fits-param x b t p n e = rw (e, n) refl

pub fits-slash : (x b : ℕ) (t p : List ℕ) → (b == 47) ≡ true → (x == 256) ≡ true → fits (x ∷ t) (b ∷ p) ≡ false
fits-slash x b t p n e = rw (e, n) refl

pub fits-other : (x b : ℕ) (t p : List ℕ) → (x == b) ≡ false → (x == 256) ≡ false → fits (x ∷ t) (b ∷ p) ≡ false
fits-other x b t p n e = rw (e, n) refl
