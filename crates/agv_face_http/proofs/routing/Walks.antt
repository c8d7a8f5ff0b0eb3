-- What a match took from the path: the segments that stand at the parameters.
use Rattle.std.proofs.Common.{◌≡◌, ℕ, zero, suc, ◌+◌, ◌-◌, ◌<◌, ◌≤◌, List, [], ◌∷◌, length, get_or, take, drop, Bool, true, false, cond, not, ◌&&◌, refl, sym, subst, ap, ◌∙◌, arith, ◌==◌, ltb, leb, add-one}
use Rattle.std.proofs.lemmas.Bool.{and_parts}
use Rattle.std.proofs.lemmas.Bool.Decides.{nat_tests}
use mathlib.Core.Bool.{true≢false}
use borrow.Author.Tests.{eqb-true}
use Rattle.matchit.specs.Params.{walk, wild_from, wild_stop, part_of, after_token}
use Rattle.matchit.specs.Seek.{segment}
use Rattle.agv_face_http.specs.routing.Taken.{Spells}
use Rattle.agv_face_http.proofs.routing.Fits.{fits, is_open, tail, is_nil, IsGood, fits-none}
use Rattle.agv_face_http.proofs.routing.Segments.{after_segment}
use Rattle.agv_face_http.proofs.routing.Patterns.{before_slash, taken_in}

abbrev is_cons : List ℕ → Bool
is_cons [] = false
is_cons (x ∷ t) = true

-- the list goes on so at a place
record Next (l : List ℕ) (k x : ℕ) (t : List ℕ) : Type 0 where
  within : k < length l
  at : get_or l k 0 ≡ x
  after : drop (suc k) l ≡ t
  len : length l ≡ k + suc (length t)

next : (l : List ℕ) (k x : ℕ) (t : List ℕ) → drop k l ≡ x ∷ t → Next l k x t
next [] zero x t h = absurd (true≢false (sym (ap is_cons h)))
next [] (suc k) x t h = absurd (true≢false (sym (ap is_cons h)))
next (y ∷ l) zero x t h =
    let e : l ≡ t = ap tail h in
    let n : length l ≡ length t = ap length e in
    record { within = omega arith; at = ap (λ z. get_or z 0 0) h; after = e; len = omega arith }
next (y ∷ l) (suc k) x t h =
    let r = next l k x t h in
    let w = r.within in
    let n = r.len in
    record { within = omega arith; at = r.at; after = r.after; len = omega arith }

drop-nil : (n : ℕ) → drop {A = ℕ} n [] ≡ []
drop-nil zero = refl
drop-nil (suc n) = refl

drop-more : (k n : ℕ) (l : List ℕ) → drop n (drop k l) ≡ drop (k + n) l
drop-more zero n l = ap (λ z. drop z l) (omega arith)
drop-more (suc k) n [] = drop-nil n ∙ sym (drop-nil (suc k + n))
drop-more (suc k) n (x ∷ l) =
    let e : suc (k + n) ≡ suc k + n = omega arith in
    drop-more k n l ∙ ap (λ z. drop z (x ∷ l)) e

length-drop-rest : (k : ℕ) (l p : List ℕ) → drop k l ≡ p → k ≤ length l → length l ≡ k + length p
length-drop-rest zero l p h w = let n : length l ≡ length p = ap length h in omega arith
length-drop-rest (suc k) [] p h w = absurd (omega arith)
length-drop-rest (suc k) (x ∷ l) p h w =
    let w' : k ≤ length l = omega arith in
    let r = length-drop-rest k l p h w' in
    omega arith

pub take-before : (p : List ℕ) → take (length (before_slash p)) p ≡ before_slash p
take-before [] = refl
take-before (b ∷ p) = by (b == 47) (take-before p)
  where
    by : (v : Bool) → take (length (before_slash p)) p ≡ before_slash p → take (length (cond v [] (b ∷ before_slash p))) (b ∷ p) ≡ cond v [] (b ∷ before_slash p)
    by true h = refl
    by false h = ap (λ z. b ∷ z) h

pub drop-before : (p : List ℕ) → drop (length (before_slash p)) p ≡ after_segment p
drop-before [] = refl
drop-before (b ∷ p) = by (b == 47) (drop-before p)
  where
    by : (v : Bool) → drop (length (before_slash p)) p ≡ after_segment p → drop (length (cond v [] (b ∷ before_slash p))) (b ∷ p) ≡ cond v (b ∷ p) (after_segment p)
    by true h = refl
    by false h = h

before-shorter : (p : List ℕ) → length (before_slash p) ≤ length p
before-shorter [] = omega arith
before-shorter (b ∷ p) = by (b == 47) (before-shorter p)
  where
    by : (v : Bool) → length (before_slash p) ≤ length p → length (cond v [] (b ∷ before_slash p)) ≤ length (b ∷ p)
    by true h = omega arith
    by false h = omega arith

segment-length : (p : List ℕ) → is_cons (after_segment p) ≡ true → length (segment p) ≡ suc (length (before_slash p))
segment-length [] h = absurd (true≢false (sym h))
segment-length (b ∷ p) h = by (b == 47) (segment-length p) h
  where
    by : (v : Bool) → (is_cons (after_segment p) ≡ true → length (segment p) ≡ suc (length (before_slash p))) → is_cons (cond v (b ∷ p) (after_segment p)) ≡ true → length (cond v (b ∷ []) (b ∷ segment p)) ≡ suc (length (cond v [] (b ∷ before_slash p)))
    by true later g = refl
    by false later g = ap suc (later g)

-- how far the bytes of a pattern go before its next parameter
record Wild (t p : List ℕ) (token at len : ℕ) : Type 0 where
  n : ℕ
  rest : List ℕ
  path : List ℕ
  from : wild_from t len token at ≡ (token + n, at + n)
  tokens : drop n t ≡ 256 ∷ rest
  bytes : drop n p ≡ path
  within : n ≤ length p
  good : IsGood (256 ∷ rest)
  fit : fits (256 ∷ rest) path ≡ true
  taken : taken_in t p ≡ before_slash path ∷ taken_in rest (after_segment path)

IsGood-rest : (x : ℕ) (t : List ℕ) → IsGood (x ∷ t) → IsGood t
IsGood-rest x [] h = tt
IsGood-rest x (y ∷ t) h = h.2

IsGood-first : (x : ℕ) (t : List ℕ) → IsGood (x ∷ t) → x < 257
IsGood-first x [] h = h
IsGood-first x (y ∷ t) h = h.0

wild-more : (x b : ℕ) (t q : List ℕ) (token at len : ℕ) → IsGood (x ∷ t) → (x == 256) ≡ false → at + length (b ∷ q) ≡ len → Wild t q (token + 1) (at + 1) len → Wild (x ∷ t) (b ∷ q) token at len
wild-more x b t q token at len g e l w =
    let lt : x < 257 = IsGood-first x t g in
    let x1 : ltb x 256 ≡ true = grind (arith, nat_tests) in
    let a0 : at < len = omega arith in
    let a1 : ltb at len ≡ true = grind (arith, nat_tests) in
    let i : w.n ≤ length q = w.within in
    let m1 : token + 1 + w.n ≡ token + suc w.n = omega arith in
    let m2 : at + 1 + w.n ≡ at + suc w.n = omega arith in
    record {
      n = suc w.n;
      rest = w.rest;
      path = w.path;
      from = rw (x1, a1) (w.from ∙ ap (λ z. (z, at + 1 + w.n)) m1 ∙ ap (λ z. (token + suc w.n, z)) m2);
      tokens = w.tokens;
      bytes = w.bytes;
      within = omega arith;
      good = w.good;
      fit = w.fit;
      taken = rw e w.taken;
    }

wild-here : (x : ℕ) (t p : List ℕ) (token at len : ℕ) → IsGood (x ∷ t) → (x == 256) ≡ true → fits (x ∷ t) p ≡ true → Wild (x ∷ t) p token at len
wild-here x t p token at len g e f =
    let is : x ≡ 256 = eqb-true x 256 e in
    let m1 : token ≡ token + 0 = omega arith in
    let m2 : at ≡ at + 0 = omega arith in
    record {
      n = 0;
      rest = t;
      path = p;
      from = ap (λ z. wild_from (z ∷ t) len token at) is ∙ ap (λ z. (z, at)) m1 ∙ ap (λ z. (token + 0, z)) m2;
      tokens = ap (λ z. z ∷ t) is;
      bytes = refl;
      within = omega arith;
      good = subst (λ z. IsGood (z ∷ t)) is g;
      fit = sym (ap (λ z. fits (z ∷ t) p) is) ∙ f;
      taken = rw e refl;
    }

wild : (t p : List ℕ) (token at len : ℕ) → IsGood t → fits t p ≡ true → at + length p ≡ len → 0 < length (taken_in t p) → Wild t p token at len
wild [] p token at len g f l h = absurd (omega arith)
wild (x ∷ t) [] token at len g f l h = absurd (true≢false (sym f ∙ fits-none x t))
wild (x ∷ t) (b ∷ q) token at len g f l h = by (x == 256) refl (λ f h. wild t q (token + 1) (at + 1) len (IsGood-rest x t g) f (omega arith) h)
  where
    by : (v : Bool) → (x == 256) ≡ v → (fits t q ≡ true → 0 < length (taken_in t q) → Wild t q (token + 1) (at + 1) len) → Wild (x ∷ t) (b ∷ q) token at len
    by true e later = wild-here x t (b ∷ q) token at len g e f
    by false e later =
        let f1 : ((x == b) && fits t q) ≡ true = sym (ap (λ v. cond v (not (b == 47) && fits t (after_segment (b ∷ q))) ((x == b) && fits t q)) e) ∙ f in
        let k : taken_in (x ∷ t) (b ∷ q) ≡ taken_in t q = rw e refl in
        let n : length (taken_in (x ∷ t) (b ∷ q)) ≡ length (taken_in t q) = ap length k in
        let a = and_parts (x == b) (fits t q) f1 in
        wild-more x b t q token at len g e l (later a.1 (omega arith))

and-false : (v : Bool) → (v && false) ≡ false
and-false true = refl
and-false false = refl

fits-cons : (y : ℕ) (t p : List ℕ) → fits (y ∷ t) p ≡ true → is_cons p ≡ true
fits-cons y t [] f = absurd (true≢false (sym f ∙ fits-none y t))
fits-cons y t (b ∷ p) f = refl

nil-only : (p : List ℕ) → is_nil p ≡ true → p ≡ []
nil-only [] h = refl
nil-only (b ∷ p) h = absurd (true≢false (sym h))

whole-before : (p : List ℕ) → after_segment p ≡ [] → before_slash p ≡ p
whole-before [] h = refl
whole-before (b ∷ p) h = by (b == 47) (whole-before p) h
  where
    by : (v : Bool) → (after_segment p ≡ [] → before_slash p ≡ p) → cond v (b ∷ p) (after_segment p) ≡ [] → cond v [] (b ∷ before_slash p) ≡ b ∷ p
    by true later g = absurd (true≢false (ap is_cons g))
    by false later g = ap (λ z. b ∷ z) (later g)

-- where the part of a parameter ends
stops : (pattern path : List ℕ) (token at : ℕ) (rest p : List ℕ) → Next pattern token 256 rest → drop at path ≡ p → at ≤ length path → IsGood (256 ∷ rest) → fits rest (after_segment p) ≡ true → wild_stop pattern token path at ≡ at + length (before_slash p)
stops pattern path token at [] p x d w g f =
    let l : length pattern ≡ token + 1 = x.len in
    let n = length-drop-rest at path p d w in
    let b : length (before_slash p) ≡ length p = ap length (whole-before p (nil-only (after_segment p) f)) in
    let t1 : ltb (token + 1) (length pattern) ≡ false = grind (arith, nat_tests) in
    let c : (ltb token (length pattern) && (get_or pattern token 0 == 256) && ltb (token + 1) (length pattern)) ≡ false = rw t1 (and-false _) in
    rw c (omega arith)
stops pattern path token at (y ∷ rest) p x d w g f =
    let l : length pattern ≡ token + suc (suc (length rest)) = x.len in
    let y1 : y ≡ 47 = g.1 refl in
    let t0 : ltb token (length pattern) ≡ true = grind (arith, nat_tests) in
    let t1 : ltb (token + 1) (length pattern) ≡ true = grind (arith, nat_tests) in
    let c : (ltb token (length pattern) && (get_or pattern token 0 == 256) && ltb (token + 1) (length pattern)) ≡ true = rw (t0, x.at, t1) refl in
    let s1 : length (segment (drop at path)) ≡ suc (length (before_slash p)) = ap (λ z. length (segment z)) d ∙ segment-length p (fits-cons y rest (after_segment p) f) in
    let s2 : length (segment (drop (token + 1) pattern)) ≡ 1 = ap (λ z. length (segment (drop z pattern))) (add-one token) ∙ ap (λ z. length (segment z)) x.after ∙ ap (λ z. length (segment (z ∷ rest))) y1 in
    rw (c, s1, s2) (omega arith)

part-at : (path p : List ℕ) (at m : ℕ) → drop at path ≡ p → m ≤ length p → at ≤ length path → part_of path at (at + m) ≡ take m p
part-at path p at m d l w =
    let n = length-drop-rest at path p d w in
    let a : leb at (at + m) ≡ true = grind (arith, nat_tests) in
    let b : leb (at + m) (length path) ≡ true = grind (arith, nat_tests) in
    let c : at + m - at ≡ m = omega arith in
    rw (a, b, c, d) refl

no-length : (l : List (List ℕ)) → 0 ≡ length l → l ≡ []
no-length [] h = refl
no-length (x ∷ l) h = absurd (omega arith)

-- what the parameters took is spelled as the route goes
pub spelled : (names : List (ℕ × ℕ)) (t p pattern text path : List ℕ) (token at : ℕ) → drop token pattern ≡ t → drop at path ≡ p → at ≤ length path → IsGood t → fits t p ≡ true → length names ≡ length (taken_in t p) → length pattern < 1000
    → Spells (walk pattern text path names token at) (taken_in t p)
spelled [] t p pattern text path token at d e w g f n small = subst (Spells []) (sym (no-length (taken_in t p) n)) tt
spelled (name ∷ names) t p pattern text path token at d e w g f n small =
    let len = length-drop-rest at path p e w in
    let some : 0 < length (taken_in t p) = omega arith in
    let r = wild t p token at (length path) g f (sym len) some in
    let i : r.n ≤ length p = r.within in
    let from = ap (λ z. wild_from z (length path) token at) d ∙ r.from in
    let d1 = sym (drop-more token r.n pattern) ∙ ap (drop r.n) d ∙ r.tokens in
    let e1 = sym (drop-more at r.n path) ∙ ap (drop r.n) e ∙ r.bytes in
    let x = next pattern (token + r.n) 256 r.rest d1 in
    let xw : token + r.n < length pattern = x.within in
    let w1 : at + r.n ≤ length path = omega arith in
    let f1 = (and_parts (is_open r.path) (fits r.rest (after_segment r.path)) r.fit).1 in
    let s = stops pattern path (token + r.n) (at + r.n) r.rest r.path x e1 w1 r.good f1 in
    let shorter = before-shorter r.path in
    let len1 = length-drop-rest (at + r.n) path r.path e1 w1 in
    let part = ap (part_of path (at + r.n)) s ∙ part-at path r.path (at + r.n) (length (before_slash r.path)) e1 shorter w1 ∙ take-before r.path in
    let tok : after_token (token + r.n) ≡ suc (token + r.n) = omega arith in
    let e2 = sym (drop-more (at + r.n) (length (before_slash r.path)) path) ∙ ap (drop (length (before_slash r.path))) e1 ∙ drop-before r.path in
    let w2 : at + r.n + length (before_slash r.path) ≤ length path = omega arith in
    let n1 : length (taken_in t p) ≡ length (before_slash r.path ∷ taken_in r.rest (after_segment r.path)) = ap length r.taken in
    let n2 : length names ≡ length (taken_in r.rest (after_segment r.path)) = omega arith in
    let ih = spelled names r.rest (after_segment r.path) pattern text path (suc (token + r.n)) (at + r.n + length (before_slash r.path)) x.after e2 w2 (IsGood-rest 256 r.rest r.good) f1 n2 small in
    subst (Spells (walk pattern text path (name ∷ names) token at)) (sym r.taken)
    (subst (λ z. Spells ((part_of text name.0 name.1, part_of path z.1 (wild_stop pattern z.0 path z.1)) ∷ walk pattern text path names (after_token z.0) (wild_stop pattern z.0 path z.1)) (before_slash r.path ∷ taken_in r.rest (after_segment r.path))) (sym from) (
      part,
      subst (λ z. Spells (walk pattern text path names z (wild_stop pattern (token + r.n) path (at + r.n))) (taken_in r.rest (after_segment r.path))) (sym tok)
          (subst (λ z. Spells (walk pattern text path names (suc (token + r.n)) z) (taken_in r.rest (after_segment r.path))) (sym s) ih),
    ))
