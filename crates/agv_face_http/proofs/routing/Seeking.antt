-- What the router's walk over rows answers: a row whose pattern the path fits, or none where it fits none.
use Rattle.std.proofs.Common.{◌≡◌, ℕ, zero, suc, ◌<◌, ◌≤◌, ◌⊎◌, inl, inr, List, [], ◌∷◌, length, Option, Some, None, Bool, true, false, cond, refl, sym, subst, ap, ◌∙◌, is_some, arith, ◌==◌}
use Rattle.std.proofs.lemmas.Bool.Decides.{nat_tests}
use mathlib.Core.Bool.{true≢false}
use borrow.Author.Tests.{eqb-true}
use Rattle.matchit.specs.Rows.{RowsOf}
use Rattle.matchit.specs.Seek.{own, step, or_else, seek}
use Rattle.agv_face_http.proofs.routing.Segments.{after_segment, length-after_segment}
use Rattle.agv_face_http.proofs.routing.Parameters.{AllTails, taken, taken-all, taken-none}
use Rattle.agv_face_http.proofs.routing.Fits.{fits, fits-none, fits-byte, fits-param, fits-slash, fits-other, IsGood, IsGood-tail, IsGood-token, AreBytes, AreBytes-after}

module _ {K : Type 0} where
  abbrev pub AllGood : RowsOf K → Type 0
  AllGood [] = Unit {0}
  AllGood ((t, k) ∷ rest) = IsGood t × AllGood rest

  -- some row with this key fits the path
  abbrev pub SomeFits : RowsOf K → List ℕ → K → Type 0
  SomeFits [] p key = ⊥
  SomeFits ((t, k) ∷ rest) p key = ((k ≡ key) × (fits t p ≡ true)) ⊎ SomeFits rest p key

  abbrev pub NoneFits : RowsOf K → List ℕ → Type 0
  NoneFits [] p = Unit {0}
  NoneFits ((t, k) ∷ rest) p = (fits t p ≡ false) × NoneFits rest p

  -- the answer for a path is the key of a row that it fits, and there is none only where it fits none
  abbrev pub Answers : RowsOf K → List ℕ → Option K → Type 0
  Answers r p None = NoneFits r p
  Answers r p (Some key) = SomeFits r p key

  AllGood-step : (b : ℕ) (r : RowsOf K) → AllGood r → AllGood (step b r)
  AllGood-step b [] h = tt
  AllGood-step b (([], k) ∷ rest) h = AllGood-step b rest h.1
  AllGood-step b ((x ∷ t, k) ∷ rest) h = by (x == b) (AllGood-step b rest h.1)
    where
      by : (v : Bool) → AllGood (step b rest) → AllGood (cond v ((t, k) ∷ step b rest) (step b rest))
      by true g = (IsGood-tail x t h.0, g)
      by false g = g

  AllTails-step : (r : RowsOf K) → AllGood r → AllTails (step 256 r)
  AllTails-step [] h = tt
  AllTails-step (([], k) ∷ rest) h = AllTails-step rest h.1
  AllTails-step ((x ∷ [], k) ∷ rest) h = by (x == 256) (AllTails-step rest h.1)
    where
      by : (v : Bool) → AllTails (step 256 rest) → AllTails (cond v (([], k) ∷ step 256 rest) (step 256 rest))
      by true g = g
      by false g = g
  AllTails-step ((x ∷ y ∷ t, k) ∷ rest) h = by (x == 256) refl (AllTails-step rest h.1)
    where
      by : (v : Bool) → (x == 256) ≡ v → AllTails (step 256 rest) → AllTails (cond v ((y ∷ t, k) ∷ step 256 rest) (step 256 rest))
      by true e g = (h.0.1 (eqb-true x 256 e), g)
      by false e g = g

  no-catch : (r : RowsOf K) → AllGood r → step 257 r ≡ []
  no-catch [] h = refl
  no-catch (([], k) ∷ rest) h = no-catch rest h.1
  no-catch ((x ∷ t, k) ∷ rest) h =
      let l : x < 257 = IsGood-token x t h.0 in
      let e : (x == 257) ≡ false = grind (arith, nat_tests) in
      rw e (no-catch rest h.1)

  wider : (t : List ℕ) (k : K) (r : RowsOf K) (p : List ℕ) (o : Option K) → fits t p ≡ false → Answers r p o → Answers ((t, k) ∷ r) p o
  wider t k r p None e h = (e, h)
  wider t k r p (Some key) e h = inr h

  own-answers : (r : RowsOf K) → Answers r [] (own r)
  own-answers [] = tt
  own-answers (([], k) ∷ rest) = inl (refl, refl)
  own-answers ((x ∷ t, k) ∷ rest) = wider (x ∷ t) k rest [] (own rest) (fits-none x t) (own-answers rest)

  some-byte : (b : ℕ) (p : List ℕ) (r : RowsOf K) (key : K) → b < 256 → SomeFits (step b r) p key → SomeFits r (b ∷ p) key
  some-byte b p [] key l h = h
  some-byte b p (([], k) ∷ rest) key l h = inr (some-byte b p rest key l h)
  some-byte b p ((x ∷ t, k) ∷ rest) key l h = by (x == b) refl (some-byte b p rest key l) h
    where
      by : (v : Bool) → (x == b) ≡ v → (SomeFits (step b rest) p key → SomeFits rest (b ∷ p) key) → SomeFits (cond v ((t, k) ∷ step b rest) (step b rest)) p key → SomeFits ((x ∷ t, k) ∷ rest) (b ∷ p) key
      by true e later (inl f) = inl (f.0, fits-byte x b t p l e ∙ f.1)
      by true e later (inr g) = inr (later g)
      by false e later g = inr (later g)

  some-param : (b : ℕ) (p : List ℕ) (r : RowsOf K) (key : K) → (b == 47) ≡ false → SomeFits (step 256 r) (after_segment p) key → SomeFits r (b ∷ p) key
  some-param b p [] key n h = h
  some-param b p (([], k) ∷ rest) key n h = inr (some-param b p rest key n h)
  some-param b p ((x ∷ t, k) ∷ rest) key n h = by (x == 256) refl (some-param b p rest key n) h
    where
      by : (v : Bool) → (x == 256) ≡ v → (SomeFits (step 256 rest) (after_segment p) key → SomeFits rest (b ∷ p) key) → SomeFits (cond v ((t, k) ∷ step 256 rest) (step 256 rest)) (after_segment p) key → SomeFits ((x ∷ t, k) ∷ rest) (b ∷ p) key
      by true e later (inl f) = inl (f.0, fits-param x b t p n e ∙ f.1)
      by true e later (inr g) = inr (later g)
      by false e later g = inr (later g)

  none-open : (b : ℕ) (p : List ℕ) (r : RowsOf K) → b < 256 → (b == 47) ≡ false → NoneFits (step b r) p → NoneFits (step 256 r) (after_segment p) → NoneFits r (b ∷ p)
  none-open b p [] l n h g = tt
  none-open b p (([], k) ∷ rest) l n h g = (refl, none-open b p rest l n h g)
  none-open b p ((x ∷ t, k) ∷ rest) l n h g = by (x == b) refl (x == 256) refl (none-open b p rest l n) h g
    where
      by : (u : Bool) → (x == b) ≡ u → (v : Bool) → (x == 256) ≡ v → (NoneFits (step b rest) p → NoneFits (step 256 rest) (after_segment p) → NoneFits rest (b ∷ p)) → NoneFits (cond u ((t, k) ∷ step b rest) (step b rest)) p → NoneFits (cond v ((t, k) ∷ step 256 rest) (step 256 rest)) (after_segment p) → NoneFits ((x ∷ t, k) ∷ rest) (b ∷ p)
      by true e true d later h g =
          let a : x ≡ b = eqb-true x b e in
          let c : x ≡ 256 = eqb-true x 256 d in
          absurd (omega arith)
      by true e false d later h g = (fits-byte x b t p l e ∙ h.0, later h.1 g)
      by false e true d later h g = (fits-param x b t p n d ∙ g.0, later h g.1)
      by false e false d later h g = (fits-other x b t p e d, later h g)

  none-slash : (b : ℕ) (p : List ℕ) (r : RowsOf K) → b < 256 → (b == 47) ≡ true → NoneFits (step b r) p → NoneFits r (b ∷ p)
  none-slash b p [] l n h = tt
  none-slash b p (([], k) ∷ rest) l n h = (refl, none-slash b p rest l n h)
  none-slash b p ((x ∷ t, k) ∷ rest) l n h = by (x == b) refl (x == 256) refl (none-slash b p rest l n) h
    where
      by : (u : Bool) → (x == b) ≡ u → (v : Bool) → (x == 256) ≡ v → (NoneFits (step b rest) p → NoneFits rest (b ∷ p)) → NoneFits (cond u ((t, k) ∷ step b rest) (step b rest)) p → NoneFits ((x ∷ t, k) ∷ rest) (b ∷ p)
      by true e v d later h = (fits-byte x b t p l e ∙ h.0, later h.1)
      by false e true d later h = (fits-slash x b t p n d, later h)
      by false e false d later h = (fits-other x b t p e d, later h)

  -- what the branch of a parameter answers
  abbrev ParamAnswers : ℕ → List ℕ → RowsOf K → Option K → Type 0
  ParamAnswers b p r o = (((b == 47) ≡ true) × (o ≡ None)) ⊎ (((b == 47) ≡ false) × Answers (step 256 r) (after_segment p) o)

  join : (b : ℕ) (p : List ℕ) (r : RowsOf K) (x y z : Option K) → b < 256 → z ≡ None → Answers (step b r) p x → ParamAnswers b p r y → Answers r (b ∷ p) (or_else x (or_else y z))
  join b p r (Some key) y z l n h g = some-byte b p r key l h
  join b p r None None z l n h (inl g) = subst (Answers r (b ∷ p)) (sym n) (none-slash b p r l g.0 h)
  join b p r None None z l n h (inr g) = subst (Answers r (b ∷ p)) (sym n) (none-open b p r l g.0 h g.1)
  join b p r None (Some key) z l n h (inl g) = absurd (true≢false (ap is_some g.1))
  join b p r None (Some key) z l n h (inr g) = some-param b p r key g.0 g.1

  pub answers : (n : ℕ) (r : RowsOf K) (p : List ℕ) → length p ≤ n → AllGood r → AreBytes p → Answers r p (seek 0 r p)
  unfolding seek
  answers n r [] l g h = own-answers r
  answers zero r (b ∷ p) l g h = absurd (omega arith)
  answers (suc n) r (b ∷ p) l g h =
      let a = length-after_segment p in
      let l1 : length p ≤ n = omega arith in
      let l2 : length (after_segment p) ≤ n = omega arith in
      let tails = AllTails-step r g in
      let byte = answers n (step b r) p l1 (AllGood-step b r g) h.1 in
      let param = answers n (step 256 r) (after_segment p) l2 (AllGood-step 256 r g) (AreBytes-after p h.1) in
      join b p r (seek 0 (step b r) p) (taken (step 256 r) b p) (own (step 257 r)) h.0 (ap own (no-catch r g)) byte (by tails param (b == 47) refl)
    where
      by : AllTails (step 256 r) → Answers (step 256 r) (after_segment p) (seek 0 (step 256 r) (after_segment p)) → (v : Bool) → (b == 47) ≡ v → ParamAnswers b p r (taken (step 256 r) b p)
      by tails param true e = inl (e, taken-none (step 256 r) b p tails e)
      by tails param false e = inr (e, subst (Answers (step 256 r) (after_segment p)) (sym (taken-all (step 256 r) b p tails e)) param)
