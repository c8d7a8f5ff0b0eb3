-- A path fits the tokens of a pattern where its segments do, and the parameters are those segments.
use Rattle.std.proofs.Common.{◌≡◌, ℕ, ◌<◌, List, [], ◌∷◌, ◌++◌, Option, None, Bool, true, false, cond, not, ◌&&◌, refl, sym, ap, ◌∙◌, arith, ◌==◌, ltb}
use Rattle.std.proofs.lemmas.Bool.{and_parts}
use Rattle.std.proofs.lemmas.Bool.Decides.{nat_tests}
use Rattle.std.specs.List.{slice_split, onto_first}
use Rattle.std.specs.Prelude.{bytes_eq, option_map}
use mathlib.Core.Bool.{true≢false}
use borrow.Author.Tests.{eqb-true}
use Rattle.agv_header.specs.Name.{is_name}
use Rattle.agv_face_http.specs.routing.Paths.{Part, Word, AName, names_in, is_slash}
use Rattle.agv_face_http.specs.routing.Taken.{all_names}
use Rattle.agv_face_http.proofs.routing.Fits.{fits, is_open, tail, is_nil}
use Rattle.agv_face_http.proofs.routing.Segments.{after_segment}

-- a byte of a word: ASCII, and no slash
abbrev pub is_word : List ℕ → Bool
is_word [] = true
is_word (b ∷ w) = ltb b 128 && not (b == 47) && is_word w

-- the words of a pattern are words
abbrev pub is_tidy : List Part → Bool
is_tidy [] = true
is_tidy (Word w ∷ parts) = is_word w && is_tidy parts
is_tidy (AName ∷ parts) = is_tidy parts

-- the tokens of a part, and of a pattern
abbrev pub part_tokens : Part → List ℕ
part_tokens (Word w) = w
part_tokens AName = 256 ∷ []

abbrev pub tokens : List Part → List ℕ
tokens [] = []
tokens (part ∷ parts) = 47 ∷ (part_tokens part ++ tokens parts)

-- a path up to its first slash
abbrev pub before_slash : List ℕ → List ℕ
before_slash [] = []
before_slash (b ∷ p) = cond (b == 47) [] (b ∷ before_slash p)

-- what stands in the path at the parameters
abbrev pub taken_in : List ℕ → List ℕ → List (List ℕ)
taken_in [] p = []
taken_in (x ∷ t) p = cond (x == 256) (before_slash p ∷ taken_in t (after_segment p)) (taken_in t (tail p))

-- the segments after a slash
abbrev pub later_segments : List ℕ → List (List ℕ)
later_segments [] = []
later_segments (b ∷ rest) = slice_split is_slash rest

pub split-first : (p : List ℕ) → slice_split is_slash p ≡ before_slash p ∷ later_segments (after_segment p)
split-first [] = refl
split-first (b ∷ p) = by (b == 47) (split-first p)
  where
    by : (v : Bool) → slice_split is_slash p ≡ before_slash p ∷ later_segments (after_segment p) → cond v ([] ∷ slice_split is_slash p) (onto_first b (slice_split is_slash p)) ≡ cond v [] (b ∷ before_slash p) ∷ later_segments (cond v (b ∷ p) (after_segment p))
    by true h = refl
    by false h = ap (onto_first b) h

-- the text is empty or at a slash
abbrev pub AtSlash : List ℕ → Type 0
AtSlash [] = Unit {0}
AtSlash (x ∷ t) = x ≡ 47

pub AtSlash-tokens : (parts : List Part) → AtSlash (tokens parts)
AtSlash-tokens [] = tt
AtSlash-tokens (part ∷ parts) = refl

pub AtSlash-after : (p : List ℕ) → AtSlash (after_segment p)
AtSlash-after [] = tt
AtSlash-after (b ∷ p) = by (b == 47) refl (AtSlash-after p)
  where
    by : (v : Bool) → (b == 47) ≡ v → AtSlash (after_segment p) → AtSlash (cond v (b ∷ p) (after_segment p))
    by true e h = eqb-true b 47 e
    by false e h = h

pub record IsWordByte (b : ℕ) (w : List ℕ) : Type 0 where
  pub ascii : b < 128
  pub plain : (b == 47) ≡ false
  pub rest : is_word w ≡ true

pub word-byte : (b : ℕ) (w : List ℕ) → is_word (b ∷ w) ≡ true → IsWordByte b w
word-byte b w h =
    let a = and_parts (ltb b 128 && not (b == 47)) (is_word w) h in
    let c = and_parts (ltb b 128) (not (b == 47)) a.0 in
    let l : ltb b 128 ≡ true = c.0 in
    let n : not (b == 47) ≡ true = c.1 in
    record { ascii = grind (arith, nat_tests); plain = by (b == 47) n; rest = a.1 }
  where
    by : (v : Bool) → not v ≡ true → v ≡ false
    by true e = sym e
    by false e = refl

fits-end : (t p : List ℕ) → AtSlash t → fits t p ≡ (bytes_eq (before_slash p) [] && fits t (after_segment p))
fits-end [] [] h = refl
fits-end (x ∷ t) [] h = rw h refl
fits-end [] (b ∷ p) h = by (b == 47)
  where
    by : (v : Bool) → false ≡ (bytes_eq (cond v [] (b ∷ before_slash p)) [] && is_nil (cond v (b ∷ p) (after_segment p)))
    by true = refl
    by false = refl
fits-end (x ∷ t) (b ∷ p) h = by (b == 47) refl
  where
    by : (v : Bool) → (b == 47) ≡ v → fits (x ∷ t) (b ∷ p) ≡ (bytes_eq (before_slash (b ∷ p)) [] && fits (x ∷ t) (after_segment (b ∷ p)))
    by true e = sym (ap (λ v. bytes_eq (cond v [] (b ∷ before_slash p)) [] && fits (x ∷ t) (cond v (b ∷ p) (after_segment p))) e)
    by false e = let n : (47 == b) ≡ false = grind (arith, nat_tests) in rw (h, e, n) refl

eqb-flip : (c b : ℕ) → (c == b) ≡ (b == c)
eqb-flip c b = grind (arith, nat_tests)

regroup : (u v x y : Bool) → u ≡ v → (u && (x && y)) ≡ ((v && x) && y)
regroup u true x y e = rw e refl
regroup u false x y e = rw e refl

pub fits-word : (w t p : List ℕ) → is_word w ≡ true → AtSlash t → fits (w ++ t) p ≡ (bytes_eq (before_slash p) w && fits t (after_segment p))
fits-word [] t p k h = fits-end t p h
fits-word (c ∷ w) t [] k h =
    let wb = word-byte c w k in
    let l = wb.ascii in
    let n : (c == 256) ≡ false = grind (arith, nat_tests) in
    rw n refl
fits-word (c ∷ w) t (b ∷ p) k h = by (word-byte c w k) (b == 47) refl (λ r. fits-word w t p r h)
  where
    by : IsWordByte c w → (v : Bool) → (b == 47) ≡ v → (is_word w ≡ true → fits (w ++ t) p ≡ (bytes_eq (before_slash p) w && fits t (after_segment p))) → fits ((c ∷ w) ++ t) (b ∷ p) ≡ (bytes_eq (before_slash (b ∷ p)) (c ∷ w) && fits t (after_segment (b ∷ p)))
    by wb true e later =
        let l = wb.ascii in
        let s = wb.plain in
        let n : (c == 256) ≡ false = grind (arith, nat_tests) in
        let m : (c == b) ≡ false = grind (arith, nat_tests) in
        rw (n, m, e) refl
    by wb false e later =
        let l = wb.ascii in
        let n : (c == 256) ≡ false = grind (arith, nat_tests) in
        rw (n, e) (ap (λ v. (c == b) && v) (later wb.rest) ∙ regroup (c == b) (b == c) (bytes_eq (before_slash p) w) (fits t (after_segment p)) (eqb-flip c b))

taken-end : (t p : List ℕ) → AtSlash t → fits t p ≡ true → taken_in t p ≡ taken_in t (after_segment p)
taken-end [] p h f = refl
taken-end (x ∷ t) [] h f = refl
taken-end (x ∷ t) (b ∷ p) h f = by (b == 47) refl
  where
    by : (v : Bool) → (b == 47) ≡ v → taken_in (x ∷ t) (b ∷ p) ≡ taken_in (x ∷ t) (after_segment (b ∷ p))
    by true e = sym (ap (λ v. taken_in (x ∷ t) (cond v (b ∷ p) (after_segment p))) e)
    by false e =
        let n : (47 == b) ≡ false = grind (arith, nat_tests) in
        let g : fits (47 ∷ t) (b ∷ p) ≡ true = sym (ap (λ z. fits (z ∷ t) (b ∷ p)) h) ∙ f in
        let g' : (false && fits t p) ≡ true = sym (ap (λ v. v && fits t p) n) ∙ g in
        absurd (true≢false (sym g'))

pub taken-word : (w t p : List ℕ) → is_word w ≡ true → AtSlash t → fits (w ++ t) p ≡ true → taken_in (w ++ t) p ≡ taken_in t (after_segment p)
taken-word [] t p k h f = taken-end t p h f
taken-word (c ∷ w) t [] k h f =
    let wb = word-byte c w k in
    let l = wb.ascii in
    let n : (c == 256) ≡ false = grind (arith, nat_tests) in
    let g : (false && fits (w ++ t) []) ≡ true = sym (ap (λ v. cond v (false && fits (w ++ t) []) (false && fits (w ++ t) [])) n) ∙ f in
    absurd (true≢false (sym g))
taken-word (c ∷ w) t (b ∷ p) k h f = by (word-byte c w k) (λ r. taken-word w t p r h)
  where
    by : IsWordByte c w → (is_word w ≡ true → fits (w ++ t) p ≡ true → taken_in (w ++ t) p ≡ taken_in t (after_segment p)) → taken_in ((c ∷ w) ++ t) (b ∷ p) ≡ taken_in t (after_segment (b ∷ p))
    by wb later =
        let l = wb.ascii in
        let s = wb.plain in
        let n : (c == 256) ≡ false = grind (arith, nat_tests) in
        let g : ((c == b) && fits (w ++ t) p) ≡ true = sym (ap (λ v. cond v (not (b == 47) && fits (w ++ t) (after_segment (b ∷ p))) ((c == b) && fits (w ++ t) p)) n) ∙ f in
        let a = and_parts (c == b) (fits (w ++ t) p) g in
        let same : c ≡ b = eqb-true c b a.0 in
        let m : (b == 47) ≡ false = sym (ap (λ z. z == 47) same) ∙ s in
        rw (n, m) (later wb.rest a.1)

if-none : (v : Bool) → cond {A = Option (List (List ℕ))} v None None ≡ None
if-none true = refl
if-none false = refl

closed : (p : List ℕ) → is_open p ≡ false → before_slash p ≡ []
closed [] h = refl
closed (b ∷ p) h = by (b == 47) h
  where
    by : (v : Bool) → not v ≡ false → cond v [] (b ∷ before_slash p) ≡ []
    by true e = refl
    by false e = absurd (true≢false e)

-- what the names in a path are, by its tokens
pub names-law : (parts : List Part) (p : List ℕ) → is_tidy parts ≡ true → AtSlash p → names_in parts (later_segments p) ≡ cond (fits (tokens parts) p) (all_names (taken_in (tokens parts) p)) None
names-law [] [] k h = refl
names-law [] (b ∷ p) k h = ap (names_in []) (split-first p)
names-law (Word w ∷ parts) [] k h = refl
names-law (AName ∷ parts) [] k h = refl
names-law (Word w ∷ parts) (b ∷ p) k h =
    let a = and_parts (is_word w) (is_tidy parts) k in
    let ih = names-law parts (after_segment p) a.1 (AtSlash-after p) in
    let f1 : fits (tokens (Word w ∷ parts)) (b ∷ p) ≡ fits (w ++ tokens parts) p = rw h refl in
    let f2 = fits-word w (tokens parts) p a.0 (AtSlash-tokens parts) in
    ap (names_in (Word w ∷ parts)) (split-first p)
    ∙ by (bytes_eq (before_slash p) w) refl (fits (w ++ tokens parts) p) refl a.0 ih f2
    ∙ sym (ap (λ v. cond v (all_names (taken_in (w ++ tokens parts) p)) None) f1)
  where
    by : (u : Bool) → bytes_eq (before_slash p) w ≡ u → (v : Bool) → fits (w ++ tokens parts) p ≡ v → is_word w ≡ true
        → names_in parts (later_segments (after_segment p)) ≡ cond (fits (tokens parts) (after_segment p)) (all_names (taken_in (tokens parts) (after_segment p))) None
        → fits (w ++ tokens parts) p ≡ (bytes_eq (before_slash p) w && fits (tokens parts) (after_segment p))
        → cond (bytes_eq (before_slash p) w) (names_in parts (later_segments (after_segment p))) None ≡ cond (fits (w ++ tokens parts) p) (all_names (taken_in (w ++ tokens parts) p)) None
    by true e true d s ih f =
        let g : fits (tokens parts) (after_segment p) ≡ true = sym (ap (λ z. z && fits (tokens parts) (after_segment p)) e) ∙ sym f ∙ d in
        ap (λ z. cond z (names_in parts (later_segments (after_segment p))) None) e
        ∙ ih
        ∙ ap (λ z. cond z (all_names (taken_in (tokens parts) (after_segment p))) None) g
        ∙ ap all_names (sym (taken-word w (tokens parts) p s (AtSlash-tokens parts) d))
        ∙ sym (ap (λ z. cond z (all_names (taken_in (w ++ tokens parts) p)) None) d)
    by true e false d s ih f =
        let g : fits (tokens parts) (after_segment p) ≡ false = sym (ap (λ z. z && fits (tokens parts) (after_segment p)) e) ∙ sym f ∙ d in
        ap (λ z. cond z (names_in parts (later_segments (after_segment p))) None) e
        ∙ ih
        ∙ ap (λ z. cond z (all_names (taken_in (tokens parts) (after_segment p))) None) g
        ∙ sym (ap (λ z. cond z (all_names (taken_in (w ++ tokens parts) p)) None) d)
    by false e v d s ih f =
        let g : fits (w ++ tokens parts) p ≡ false = f ∙ ap (λ z. z && fits (tokens parts) (after_segment p)) e in
        ap (λ z. cond z (names_in parts (later_segments (after_segment p))) None) e
        ∙ sym (ap (λ z. cond z (all_names (taken_in (w ++ tokens parts) p)) None) g)
names-law (AName ∷ parts) (b ∷ p) k h =
    let ih = names-law parts (after_segment p) k (AtSlash-after p) in
    let f1 : fits (tokens (AName ∷ parts)) (b ∷ p) ≡ (is_open p && fits (tokens parts) (after_segment p)) = rw h refl in
    ap (names_in (AName ∷ parts)) (split-first p)
    ∙ by (is_open p) refl (fits (tokens parts) (after_segment p)) refl ih
    ∙ sym (ap (λ v. cond v (all_names (before_slash p ∷ taken_in (tokens parts) (after_segment p))) None) f1)
  where
    by : (u : Bool) → is_open p ≡ u → (v : Bool) → fits (tokens parts) (after_segment p) ≡ v
        → names_in parts (later_segments (after_segment p)) ≡ cond (fits (tokens parts) (after_segment p)) (all_names (taken_in (tokens parts) (after_segment p))) None
        → cond (is_name (before_slash p)) (option_map (λ names. before_slash p ∷ names) (names_in parts (later_segments (after_segment p)))) None
        ≡ cond (is_open p && fits (tokens parts) (after_segment p)) (cond (is_name (before_slash p)) (option_map (λ names. before_slash p ∷ names) (all_names (taken_in (tokens parts) (after_segment p)))) None) None
    by true e true d ih =
        ap (λ z. cond (is_name (before_slash p)) (option_map (λ names. before_slash p ∷ names) z) None) (ih ∙ ap (λ z. cond z (all_names (taken_in (tokens parts) (after_segment p))) None) d)
        ∙ rw (e, d) refl
    by true e false d ih =
        ap (λ z. cond (is_name (before_slash p)) (option_map (λ names. before_slash p ∷ names) z) None) (ih ∙ ap (λ z. cond z (all_names (taken_in (tokens parts) (after_segment p))) None) d)
        ∙ if-none (is_name (before_slash p))
        ∙ rw (e, d) refl
    by false e v d ih =
        ap (λ z. cond (is_name z) (option_map (λ names. before_slash p ∷ names) (names_in parts (later_segments (after_segment p)))) None) (closed p e)
        ∙ rw e refl
