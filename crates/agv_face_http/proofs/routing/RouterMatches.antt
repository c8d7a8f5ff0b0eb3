-- What a match in the router says of a path.
use Rattle.std.proofs.Common.{◌≡◌, inl, inr, ℕ, suc, ◌<◌, ◌≤◌, List, [], ◌∷◌, length, Option, Some, None, Bool, true, false, cond, ◌&&◌, refl, sym, subst, ap, ◌∙◌, is_some, arith, ◌==◌, ltb, leb}
use Rattle.std.proofs.lemmas.Bool.{and_parts}
use Rattle.std.proofs.lemmas.Bool.Decides.{nat_tests}
use Rattle.std.proofs.lemmas.Str.{IsUtf8-from_ascii}
use Rattle.std.proofs.lemmas.Str.Ascii.{IsAscii-nil, IsAscii-cons}
use Rattle.std.specs.List.{list_all}
use Rattle.std.specs.Str.{IsAscii, IsNotAscii}
use Rattle.std.specs.Prelude.{bytes_eq, option_map, option_and_then}
use mathlib.Core.Bool.{true≢false}
use borrow.Author.Tests.{eqb-true}
use Rattle.matchit.specs.Params.{walk}
use Rattle.matchit.specs.Router.{RouteOf}
use Rattle.matchit.specs.Seek.{first}
use Rattle.agv_header.specs.Name.{is_name, is_name_byte}
use Rattle.agv_face_http.specs.routing.Paths.{Part, Word, AName, names_in}
use Rattle.agv_face_http.specs.routing.Table.{Row, MethodRoute, with_route, method_route_by, method_route_at, or_next, at_path, entries, route_with, table}
use Rattle.agv_face_http.specs.routing.RouterRows.{RouterRows, router_rows}
use Rattle.agv_face_http.specs.routing.Taken.{all_names, AreTexts, IsTaken}
use Rattle.agv_face_http.specs.declared.routing.line.Line.{Line}
use Rattle.agv_face_http.proofs.routing.Fits.{fits, tail, AreBytes}
use Rattle.agv_face_http.proofs.routing.Seeking.{SomeFits, NoneFits, Answers, answers}
use Rattle.agv_face_http.proofs.routing.Segments.{after_segment}
use Rattle.agv_face_http.proofs.routing.Patterns.{is_word, is_tidy, tokens, before_slash, taken_in, later_segments, AtSlash, AtSlash-after, names-law, split-first, word-byte}
use Rattle.agv_face_http.proofs.routing.RouterLines.{params, is_fit, AllMade, HasMatchingRow, Covered, covered, kin, good-tokens, tidy-of, not-nil-fits, none-served, one-served, table-apart, bytes_same}
use Rattle.agv_face_http.proofs.routing.Walks.{spelled}

-- each byte is ASCII
abbrev AreAscii : List ℕ → Type 0
AreAscii [] = Unit {0}
AreAscii (b ∷ p) = (b < 128) × AreAscii p

ascii-down : (p : List ℕ) → IsAscii p → AreAscii p
ascii-down [] h = tt
ascii-down (b ∷ p) h = (h 0, ascii-down p (λ i. h (suc i)))

ascii-up : (p : List ℕ) → AreAscii p → IsAscii p
ascii-up [] h = IsAscii-nil
ascii-up (b ∷ p) h = IsAscii-cons b p h.0 (ascii-up p h.1)

bytes-of : (p : List ℕ) → AreAscii p → AreBytes p
bytes-of [] h = tt
bytes-of (b ∷ p) h = (let l = h.0 in omega arith, bytes-of p h.1)

ascii-before : (p : List ℕ) → AreAscii p → AreAscii (before_slash p)
ascii-before [] h = tt
ascii-before (b ∷ p) h = by (b == 47) (ascii-before p h.1)
  where
    by : (v : Bool) → AreAscii (before_slash p) → AreAscii (cond v [] (b ∷ before_slash p))
    by true l = tt
    by false l = (h.0, l)

ascii-after : (p : List ℕ) → AreAscii p → AreAscii (after_segment p)
ascii-after [] h = tt
ascii-after (b ∷ p) h = by (b == 47) (ascii-after p h.1)
  where
    by : (v : Bool) → AreAscii (after_segment p) → AreAscii (cond v (b ∷ p) (after_segment p))
    by true l = h
    by false l = l

ascii-tail : (p : List ℕ) → AreAscii p → AreAscii (tail p)
ascii-tail [] h = tt
ascii-tail (b ∷ p) h = h.1

taken-texts : (t p : List ℕ) → AreAscii p → AreTexts (taken_in t p)
taken-texts [] p h = tt
taken-texts (x ∷ t) p h = by (x == 256) (taken-texts t (after_segment p) (ascii-after p h)) (taken-texts t (tail p) (ascii-tail p h))
  where
    by : (v : Bool) → AreTexts (taken_in t (after_segment p)) → AreTexts (taken_in t (tail p)) → AreTexts (cond v (before_slash p ∷ taken_in t (after_segment p)) (taken_in t (tail p)))
    by true a b = (IsUtf8-from_ascii (before_slash p) (ascii-up (before_slash p) (ascii-before p h)), a)
    by false a b = b

length-taken : (t p : List ℕ) → length (taken_in t p) ≡ params t
length-taken [] p = refl
length-taken (x ∷ t) p = by (x == 256) (length-taken t (after_segment p)) (length-taken t (tail p))
  where
    by : (v : Bool) → length (taken_in t (after_segment p)) ≡ params t → length (taken_in t (tail p)) ≡ params t → length (cond v (before_slash p ∷ taken_in t (after_segment p)) (taken_in t (tail p))) ≡ cond v (suc (params t)) (params t)
    by true a b = ap suc a
    by false a b = b

and-first : (u v : Bool) → (u && v) ≡ true → u ≡ true
and-first u v h = (and_parts u v h).0

bounds-of : (t : List ℕ) (v : Bool) → (v && ltb (length t) 1000 && leb (params t) 2) ≡ true → (length t < 1000) × (params t ≤ 2)
bounds-of t v h =
    let a = and_parts (v && ltb (length t) 1000) (leb (params t) 2) h in
    let b : ltb (length t) 1000 ≡ true = (and_parts v (ltb (length t) 1000) a.0).1 in
    let c : leb (params t) 2 ≡ true = a.1 in
    (grind (arith, nat_tests), grind (arith, nat_tests))

is-fit-bounds : (parts : List Part) → is_fit parts ≡ true → (length (tokens parts) < 1000) × (params (tokens parts) ≤ 2)
is-fit-bounds [] h = absurd (true≢false (sym h))
is-fit-bounds (part ∷ parts) h = bounds-of (tokens (part ∷ parts)) (is_tidy (part ∷ parts)) h

-- the path begins with a slash
record Slashes (p : List ℕ) : Type 0 where
  rest : List ℕ
  is : p ≡ 47 ∷ rest

at-slash : (p : List ℕ) → Slashes p → at_path p ≡ method_route_at table (later_segments p)
at-slash p s = ap at_path s.is ∙ ap (λ z. method_route_at table (later_segments z)) (sym s.is)

slashes-fit : (parts : List Part) (p : List ℕ) → is_fit parts ≡ true → fits (tokens parts) p ≡ true → Slashes p
slashes-fit [] p k f = absurd (true≢false (sym k))
slashes-fit (part ∷ parts) [] k f = absurd (not-nil-fits part parts f)
slashes-fit (part ∷ parts) (b ∷ p) k f = record { rest = p; is = ap (λ z. z ∷ p) (sym (eqb-true 47 b (and-first _ _ f))) }

slashes-some : (rs : List Row) (l : RouterRows) (p : List ℕ) (e : RouteOf Line) → AllMade rs l → SomeFits l p e → Slashes p
slashes-some [] [] p e m f = absurd f
slashes-some [] (x ∷ l) p e m f = absurd m
slashes-some (r ∷ rs) [] p e m f = absurd m
slashes-some (r ∷ rs) ((t, k) ∷ l) p e m (inl f) = slashes-fit r.pattern p m.0.fit (sym (ap (λ z. fits z p) m.0.here) ∙ f.1)
slashes-some (r ∷ rs) ((t, k) ∷ l) p e m (inr f) = slashes-some rs l p e m.1 f

all-covered : Covered table router_rows
unfolding router_rows
all-covered = covered table entries kin [] [] (record { list = []; made = tt; covers = record { good = tt; answers = λ p o h. h } })

router-answers : (p : List ℕ) → AreAscii p → Answers all-covered.list p (first router_rows p)
router-answers p h = all-covered.covers.answers p (first router_rows p) (answers (length p) router_rows p (omega arith) all-covered.covers.good (bytes-of p h))

-- what the router found at a path
pub record IsFound (p : List ℕ) (e : RouteOf Line) : Type 0 where
  pub taken : List (List ℕ)
  pub is_taken : IsTaken (walk e.pattern e.text p e.names 0 0) taken
  pub served : at_path p ≡ with_route e.value.method (option_and_then (route_with e.value.kind) (all_names taken))

found-of : (p : List ℕ) (e : RouteOf Line) → AreAscii p → Slashes p → HasMatchingRow table p e → IsFound p e
found-of p e h sl s =
    let at : AtSlash p = subst AtSlash (sym sl.is) refl in
    let m = s.made in
    let tidy = tidy-of s.row.pattern m.fit in
    let n = names-law s.row.pattern p tidy at ∙ ap (λ v. cond v (all_names (taken_in (tokens s.row.pattern) p)) None) s.fit in
    let bounds = is-fit-bounds s.row.pattern m.fit in
    let len = length-taken (tokens s.row.pattern) p in
    let plen : length e.pattern ≡ length (tokens s.row.pattern) = ap length m.pattern in
    let small : length e.pattern < 1000 = let b = bounds.0 in omega arith in
    record {
      taken = taken_in (tokens s.row.pattern) p;
      is_taken =
          record {
            spelled = spelled e.names (tokens s.row.pattern) p e.pattern e.text p 0 0 m.pattern refl (omega arith) (good-tokens s.row.pattern tidy) s.fit (m.names ∙ sym len) small;
            texts = taken-texts (tokens s.row.pattern) p h;
            few = let b = bounds.1 in omega arith;
          };
      served =
          at-slash p sl
          ∙ s.served
          ∙ ap (λ z. with_route s.row.method (option_and_then s.row.route z)) n
          ∙ ap (λ z. with_route s.row.method (option_and_then z (all_names (taken_in (tokens s.row.pattern) p)))) (sym m.route)
          ∙ ap (λ z. with_route z (option_and_then (route_with e.value.kind) (all_names (taken_in (tokens s.row.pattern) p)))) (sym m.method);
    }

pub found : (p : List ℕ) (e : RouteOf Line) → IsAscii p → first router_rows p ≡ Some e → IsFound p e
found p e h f =
    let a = ascii-down p h in
    let s : SomeFits all-covered.list p e = subst (Answers all-covered.list p) f (router-answers p a) in
    let sl = slashes-some table all-covered.list p e all-covered.made s in
    found-of p e a sl (one-served table all-covered.list p e all-covered.made (subst AtSlash (sym sl.is) refl) table-apart s)

no-slash-none : (b : ℕ) (p : List ℕ) → (b == 47) ≡ false → at_path (b ∷ p) ≡ None
no-slash-none b p e = rw e refl

pub missing : (p : List ℕ) → IsAscii p → first router_rows p ≡ None → at_path p ≡ None
missing [] h f = refl
missing (b ∷ p) h f = by (b == 47) refl
  where
    by : (v : Bool) → (b == 47) ≡ v → at_path (b ∷ p) ≡ None
    by true e =
        let at : b ≡ 47 = eqb-true b 47 e in
        let n : NoneFits all-covered.list (b ∷ p) = subst (Answers all-covered.list (b ∷ p)) f (router-answers (b ∷ p) (ascii-down (b ∷ p) h)) in
        at-slash (b ∷ p) (record { rest = p; is = ap (λ z. z ∷ p) at }) ∙ none-served table all-covered.list (b ∷ p) all-covered.made at n
    by false e = no-slash-none b p e

ascii-join : (p : List ℕ) → AreAscii (before_slash p) → AreAscii (after_segment p) → AreAscii p
ascii-join [] a b = tt
ascii-join (c ∷ p) a b = by (c == 47) (ascii-join p) a b
  where
    by : (v : Bool) → (AreAscii (before_slash p) → AreAscii (after_segment p) → AreAscii p) → AreAscii (cond v [] (c ∷ before_slash p)) → AreAscii (cond v (c ∷ p) (after_segment p)) → AreAscii (c ∷ p)
    by true later a b = b
    by false later a b = (a.0, later a.1 b)

ascii-word : (w : List ℕ) → is_word w ≡ true → AreAscii w
ascii-word [] h = tt
ascii-word (b ∷ w) h = let k = word-byte b w h in (k.ascii, ascii-word w k.rest)

ascii-name-byte : (b : ℕ) → is_name_byte b ≡ true → b < 128
ascii-name-byte b h = grind (arith, nat_tests)

ascii-all : (s : List ℕ) → list_all is_name_byte s ≡ true → AreAscii s
ascii-all [] h = tt
ascii-all (b ∷ s) h = let k = and_parts _ _ h in (ascii-name-byte b k.0, ascii-all s k.1)

ascii-name : (s : List ℕ) → is_name s ≡ true → AreAscii s
ascii-name s h = ascii-all s (and_parts _ _ h).1

mapped : (f : List (List ℕ) → List (List ℕ)) (x : Option (List (List ℕ))) → is_some (option_map f x) ≡ true → is_some x ≡ true
mapped f None h = h
mapped f (Some y) h = refl

-- a path whose names are found is ASCII
ascii-names : (parts : List Part) (p : List ℕ) → is_tidy parts ≡ true → AtSlash p → is_some (names_in parts (later_segments p)) ≡ true → AreAscii p
ascii-names [] [] k a h = tt
ascii-names [] (b ∷ p) k a h = absurd (true≢false (sym (sym (ap (λ z. is_some (names_in [] z)) (split-first p)) ∙ h)))
ascii-names (Word w ∷ parts) [] k a h = tt
ascii-names (AName ∷ parts) [] k a h = tt
ascii-names (Word w ∷ parts) (b ∷ p) k a h =
    let c = and_parts (is_word w) (is_tidy parts) k in
    by c.0 (ascii-names parts (after_segment p) c.1 (AtSlash-after p)) (bytes_eq (before_slash p) w) refl (sym (ap (λ z. is_some (names_in (Word w ∷ parts) z)) (split-first p)) ∙ h)
  where
    by : is_word w ≡ true → (is_some (names_in parts (later_segments (after_segment p))) ≡ true → AreAscii (after_segment p)) → (v : Bool) → bytes_eq (before_slash p) w ≡ v → is_some (cond v (names_in parts (later_segments (after_segment p))) None) ≡ true → AreAscii (b ∷ p)
    by c later true e g = (omega arith, ascii-join p (subst AreAscii (sym (bytes_same (before_slash p) w e)) (ascii-word w c)) (later g))
    by c later false e g = absurd (true≢false (sym g))
ascii-names (AName ∷ parts) (b ∷ p) k a h =
    by (ascii-names parts (after_segment p) k (AtSlash-after p)) (is_name (before_slash p)) refl (sym (ap (λ z. is_some (names_in (AName ∷ parts) z)) (split-first p)) ∙ h)
  where
    by : (is_some (names_in parts (later_segments (after_segment p))) ≡ true → AreAscii (after_segment p)) → (v : Bool) → is_name (before_slash p) ≡ v → is_some (cond v (option_map (λ names. before_slash p ∷ names) (names_in parts (later_segments (after_segment p)))) None) ≡ true → AreAscii (b ∷ p)
    by later true e g = (omega arith, ascii-join p (ascii-name (before_slash p) e) (later (mapped (λ names. before_slash p ∷ names) _ g)))
    by later false e g = absurd (true≢false (sym g))

ascii-row : (r : Row) (p : List ℕ) → is_fit r.pattern ≡ true → AtSlash p → is_some (method_route_by r (later_segments p)) ≡ true → AreAscii p
ascii-row r p k a h = ascii-names r.pattern p (tidy-of r.pattern k) a (by (names_in r.pattern (later_segments p)) h)
  where
    by : (x : Option (List (List ℕ))) → is_some (with_route r.method (option_and_then r.route x)) ≡ true → is_some x ≡ true
    by None g = g
    by (Some x) g = refl

ascii-rows : (rs : List Row) (l : RouterRows) (p : List ℕ) → AllMade rs l → AtSlash p → is_some (method_route_at rs (later_segments p)) ≡ true → AreAscii p
ascii-rows [] [] p m a h = absurd (true≢false (sym h))
ascii-rows [] (x ∷ l) p m a h = absurd m
ascii-rows (r ∷ rs) [] p m a h = absurd m
ascii-rows (r ∷ rs) ((t, e) ∷ l) p m a h = by (method_route_by r (later_segments p)) (ascii-row r p m.0.fit a) (ascii-rows rs l p m.1 a) h
  where
    by : (x : Option MethodRoute) → (is_some x ≡ true → AreAscii p) → (is_some (method_route_at rs (later_segments p)) ≡ true → AreAscii p) → is_some (or_next x (method_route_at rs (later_segments p))) ≡ true → AreAscii p
    by None here later g = later g
    by (Some x) here later g = here refl

ascii-path : (p : List ℕ) → is_some (at_path p) ≡ true → AreAscii p
ascii-path [] h = tt
ascii-path (b ∷ p) h = by (b == 47) refl
  where
    by : (v : Bool) → (b == 47) ≡ v → AreAscii (b ∷ p)
    by true e =
        let at : b ≡ 47 = eqb-true b 47 e in
        let g = sym (ap is_some (at-slash (b ∷ p) (record { rest = p; is = ap (λ z. z ∷ p) at }))) ∙ h in
        ascii-rows table all-covered.list (b ∷ p) all-covered.made at g
    by false e = absurd (true≢false (sym (sym (ap is_some (no-slash-none b p e)) ∙ h)))

-- a path that isn't ASCII is no line's
pub strange : (p : List ℕ) → IsNotAscii p → at_path p ≡ None
strange p h = by (at_path p) (ascii-path p)
  where
    by : (x : Option MethodRoute) → (is_some x ≡ true → AreAscii p) → x ≡ None
    by None a = refl
    by (Some x) a = let i = ascii-up p (a refl) h.0 in let g = h.1 in absurd (omega (arith, i, g))
