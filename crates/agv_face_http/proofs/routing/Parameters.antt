-- What a parameter of a pattern takes in the router's walk: a whole segment that isn't empty.
use Rattle.std.proofs.Common.{◌≡◌, ℕ, zero, suc, ◌-◌, List, [], ◌∷◌, length, drop, Option, None, Bool, true, false, cond, ◌&&◌, refl, sym, ap, ◌∙◌, arith, ◌==◌, ltb}
use Rattle.std.proofs.lemmas.Bool.Decides.{nat_tests}
use mathlib.Core.Bool.{true≢false}
use Rattle.matchit.specs.Rows.{RowsOf}
use Rattle.matchit.specs.Seek.{step, seek, param_step, segment, has_slash, cuts, longest_from, with_suffix}
use Rattle.agv_face_http.proofs.routing.Segments.{after_segment, Slashed, slashed, whole, no-slash-drop, and-false, drop-whole, cuts-slash}

module _ {K : Type 0} where
  ps-of-none : (p : List ℕ) → (v : Bool) → (cond {A = ℕ × RowsOf K} v (0, []) (length p, [])).1 ≡ []
  ps-of-none p true = refl
  ps-of-none p false = refl

  seek-empty : (k : ℕ) (p : List ℕ) → seek {K = K} k [] p ≡ None
  unfolding seek param_step
  seek-empty k [] = refl
  seek-empty (suc k) (b ∷ p) = seek-empty k p
  seek-empty zero (b ∷ p) = simp (seek-empty 0 p, ps-of-none (b ∷ p) (has_slash (b ∷ p)), seek-empty ((cond {A = ℕ × RowsOf K} (has_slash (b ∷ p)) (0, []) (length (b ∷ p), [])).0 - 1) p) refl

  seek-drop : (k : ℕ) (r : RowsOf K) (p : List ℕ) → seek k r p ≡ seek 0 r (drop k p)
  unfolding seek
  seek-drop zero r p = refl
  seek-drop (suc k) r [] = refl
  seek-drop (suc k) r (b ∷ p) = seek-drop k r p

  -- each row is at an end or at a slash
  abbrev pub AllTails : RowsOf K → Type 0
  AllTails [] = Unit {0}
  AllTails (([], k) ∷ rest) = AllTails rest
  AllTails ((x ∷ t, k) ∷ rest) = (x ≡ 47) × AllTails rest

  -- some row goes on
  abbrev has_more : RowsOf K → Bool
  has_more [] = false
  has_more (([], k) ∷ rest) = has_more rest
  has_more ((x ∷ t, k) ∷ rest) = true

  longest-held : (seg : List ℕ) (r : RowsOf K) → AllTails r → longest_from seg (47 ∷ []) r ≡ 47 ∷ []
  longest-held seg [] h = refl
  longest-held seg (([], k) ∷ rest) h = longest-held seg rest h
  longest-held seg ((x ∷ t, k) ∷ rest) h = rw h.0 (longest-held seg rest h.1)

  longest-yes : (seg : List ℕ) (r : RowsOf K) → AllTails r → cuts seg (47 ∷ []) ≡ true → longest_from seg [] r ≡ cond (has_more r) (47 ∷ []) []
  longest-yes seg [] h c = refl
  longest-yes seg (([], k) ∷ rest) h c = longest-yes seg rest h c
  longest-yes seg ((x ∷ t, k) ∷ rest) h c = rw (h.0, c) (longest-held seg rest h.1)

  longest-no : (seg : List ℕ) (r : RowsOf K) → AllTails r → cuts seg (47 ∷ []) ≡ false → longest_from seg [] r ≡ []
  longest-no seg [] h c = refl
  longest-no seg (([], k) ∷ rest) h c = longest-no seg rest h c
  longest-no seg ((x ∷ t, k) ∷ rest) h c = rw (h.0, c) (longest-no seg rest h.1 c)

  step-suffix : (b : ℕ) (r : RowsOf K) → AllTails r → step b (with_suffix (47 ∷ []) r) ≡ step b r
  step-suffix b [] h = refl
  step-suffix b (([], k) ∷ rest) h = step-suffix b rest h
  step-suffix b ((x ∷ t, k) ∷ rest) h = rw h.0 (ap (λ z. cond (47 == b) ((t, k) ∷ z) z) (step-suffix b rest h.1))

  step-ended : (b : ℕ) (r : RowsOf K) → has_more r ≡ false → step b r ≡ []
  step-ended b [] h = refl
  step-ended b (([], k) ∷ rest) h = step-ended b rest h
  step-ended b ((x ∷ t, k) ∷ rest) h = absurd (true≢false h)

  seek-same : (r q : RowsOf K) (b : ℕ) (p : List ℕ) → ((c : ℕ) → step c r ≡ step c q) → seek 0 r (b ∷ p) ≡ seek 0 q (b ∷ p)
  unfolding seek
  seek-same r q b p same = rw (same b, same 256, same 257) refl

  param-slash : (r : RowsOf K) (path : List ℕ) → longest_from (segment path) [] r ≡ 47 ∷ [] → param_step r path ≡ (length (segment path) - 1, with_suffix (47 ∷ []) r)
  unfolding param_step
  param-slash r path e = rw e refl

  param-stop : (r : RowsOf K) (path : List ℕ) → longest_from (segment path) [] r ≡ [] → has_slash path ≡ true → param_step r path ≡ (0, [])
  unfolding param_step
  param-stop r path e h = rw (e, h) refl

  param-end : (r : RowsOf K) (path : List ℕ) → longest_from (segment path) [] r ≡ [] → has_slash path ≡ false → param_step r path ≡ (length path, r)
  unfolding param_step
  param-end r path e h = rw (e, h) refl

  -- what a parameter leads to
  abbrev pub taken : RowsOf K → ℕ → List ℕ → Option K
  taken r b p = seek ((param_step r (b ∷ p)).0 - 1) (param_step r (b ∷ p)).1 p

  -- a parameter takes no empty segment
  pub taken-none : (r : RowsOf K) (b : ℕ) (p : List ℕ) → AllTails r → (b == 47) ≡ true → taken r b p ≡ None
  taken-none r b p h e =
      let is : b ≡ 47 = grind (arith, nat_tests) in
      let l : longest_from (segment (47 ∷ p)) [] r ≡ [] = longest-no (47 ∷ []) r h refl in
      ap (λ x. taken r x p) is ∙ ap (λ z. seek (z.0 - 1) z.1 p) (param-stop r (47 ∷ p) l refl) ∙ seek-empty 0 p

  -- a parameter takes a whole segment
  pub taken-all : (r : RowsOf K) (b : ℕ) (p : List ℕ) → AllTails r → (b == 47) ≡ false → taken r b p ≡ seek 0 r (after_segment p)
  taken-all r b p h e = by (has_slash p) refl
    where
      more : (s : Slashed p) → has_slash p ≡ true → longest_from (segment (b ∷ p)) [] r ≡ cond (has_more r) (47 ∷ []) [] → (v : Bool) → has_more r ≡ v → taken r b p ≡ seek 0 r (after_segment p)
      more s g l true m =
          let l1 : longest_from (segment (b ∷ p)) [] r ≡ 47 ∷ [] = l ∙ ap (λ v. cond v (47 ∷ []) []) m in
          let n1 : length (segment (b ∷ p)) - 1 - 1 ≡ s.n = rw (e, s.len) (omega arith) in
          ap (λ z. seek (z.0 - 1) z.1 p) (param-slash r (b ∷ p) l1)
          ∙ ap (λ k. seek k (with_suffix (47 ∷ []) r) p) n1
          ∙ seek-drop s.n (with_suffix (47 ∷ []) r) p
          ∙ ap (seek 0 (with_suffix (47 ∷ []) r)) (s.front ∙ s.after)
          ∙ seek-same (with_suffix (47 ∷ []) r) r 47 s.rest (λ c. step-suffix c r h)
          ∙ ap (seek 0 r) (sym s.after)
      more s g l false m =
          let l1 : longest_from (segment (b ∷ p)) [] r ≡ [] = l ∙ ap (λ v. cond v (47 ∷ []) []) m in
          let hs : has_slash (b ∷ p) ≡ true = rw e g in
          ap (λ z. seek (z.0 - 1) z.1 p) (param-stop r (b ∷ p) l1 hs)
          ∙ seek-empty 0 p
          ∙ sym (seek-empty 0 (47 ∷ s.rest))
          ∙ sym (seek-same r [] 47 s.rest (λ c. step-ended c r m))
          ∙ ap (seek 0 r) (sym s.after)

      by : (v : Bool) → has_slash p ≡ v → taken r b p ≡ seek 0 r (after_segment p)
      by true g =
          let s = slashed p g in
          more s g (longest-yes (segment (b ∷ p)) r h (rw (e) (cuts-slash b p s))) (has_more r) refl
      by false g =
          let w = whole p g in
          let hs : has_slash (b ∷ p) ≡ false = rw e g in
          let seg : segment (b ∷ p) ≡ b ∷ p = rw e (ap (λ q. b ∷ q) w.0) in
          let c : cuts (segment (b ∷ p)) (47 ∷ []) ≡ false = rw seg (ap (λ v. ltb 1 (length (b ∷ p)) && v) (no-slash-drop (length (b ∷ p) - 1) (b ∷ p) hs) ∙ and-false _) in
          ap (λ z. seek (z.0 - 1) z.1 p) (param-end r (b ∷ p) (longest-no (segment (b ∷ p)) r h c) hs)
          ∙ seek-drop (length (b ∷ p) - 1) r p
          ∙ ap (seek 0 r) (drop-whole p _ (omega arith) ∙ sym w.1)
