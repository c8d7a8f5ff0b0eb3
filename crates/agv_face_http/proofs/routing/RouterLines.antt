-- The router's lines are those of the table, and what it answers is what the table says.
use Rattle.std.proofs.Common.{◌≡◌, inl, inr, ℕ, suc, ◌<◌, List, [], ◌∷◌, ◌++◌, map, append_assoc, append-nil, length, Option, Some, None, Result, Ok, Err, Bool, true, false, cond, not, ◌&&◌, refl, sym, subst, ap, ◌∙◌, arith, ◌==◌, ltb, leb}
use Rattle.std.proofs.lemmas.Bool.{and_parts}
use Rattle.std.proofs.lemmas.Bool.Decides.{nat_tests}
use Rattle.std.specs.Prelude.{bytes_eq, option_and_then}
use mathlib.Core.Bool.{true≢false}
use borrow.Author.Tests.{eqb-true}
use Rattle.matchit.specs.Order.{placed}
use Rattle.matchit.specs.Rows.{RowsOf, comes_before}
use Rattle.matchit.specs.Route.{Scan, parse_route}
use Rattle.matchit.specs.Router.{RouteOf, route_from}
use Rattle.matchit.specs.declared.error.InsertError.{InsertError}
use Rattle.matchit.proofs.OnLiterals.{matchit_on_literals}
use Rattle.agv_face_http.specs.routing.Paths.{Part, Word, AName, names_in, pattern_of}
use Rattle.agv_face_http.specs.routing.Table.{Row, MethodRoute, with_route, method_route_by, method_route_at, or_next, Entry, entries, route_with, row_of, table}
use Rattle.agv_face_http.specs.routing.RouterRows.{RouterRows, with_scan, inserted, with_entries}
use Rattle.agv_face_http.specs.declared.routing.line.Line.{Line}
use Rattle.agv_face_http.specs.routing.Taken.{all_names}
use Rattle.agv_face_http.proofs.routing.Fits.{fits, IsGood}
use Rattle.agv_face_http.proofs.routing.Seeking.{AllGood, SomeFits, NoneFits, Answers}
use Rattle.agv_face_http.proofs.routing.Segments.{after_segment}
use Rattle.agv_face_http.proofs.routing.Patterns.{is_word, is_tidy, tokens, before_slash, taken_in, later_segments, AtSlash, AtSlash-tokens, fits-word, names-law}

module _ {K : Type 0} where
  none-placed : (x : List ℕ × K) (r : RowsOf K) (p : List ℕ) → NoneFits (placed x r) p → NoneFits (x ∷ r) p
  none-placed x [] p h = h
  none-placed x (y ∷ rest) p h = by (comes_before x.0 y.0) (none-placed x rest p) h
    where
      by : (v : Bool) → (NoneFits (placed x rest) p → NoneFits (x ∷ rest) p) → NoneFits (cond v (x ∷ y ∷ rest) (y ∷ placed x rest)) p → NoneFits (x ∷ y ∷ rest) p
      by true later g = g
      by false later g = let l = later g.1 in (l.0, (g.0, l.1))

  some-placed : (x : List ℕ × K) (r : RowsOf K) (p : List ℕ) (key : K) → SomeFits (placed x r) p key → SomeFits (x ∷ r) p key
  some-placed x [] p key h = h
  some-placed x (y ∷ rest) p key h = by (comes_before x.0 y.0) (some-placed x rest p key) h
    where
      swap : SomeFits (x ∷ rest) p key → SomeFits (x ∷ y ∷ rest) p key
      swap (inl a) = inl a
      swap (inr b) = inr (inr b)

      by : (v : Bool) → (SomeFits (placed x rest) p key → SomeFits (x ∷ rest) p key) → SomeFits (cond v (x ∷ y ∷ rest) (y ∷ placed x rest)) p key → SomeFits (x ∷ y ∷ rest) p key
      by true later g = g
      by false later (inl a) = inr (inl a)
      by false later (inr b) = swap (later b)

  good-placed : (x : List ℕ × K) (r : RowsOf K) → IsGood x.0 → AllGood r → AllGood (placed x r)
  good-placed x [] g h = (g, tt)
  good-placed x (y ∷ rest) g h = by (comes_before x.0 y.0) (good-placed x rest g h.1)
    where
      by : (v : Bool) → AllGood (placed x rest) → AllGood (cond v (x ∷ y ∷ rest) (y ∷ placed x rest))
      by true l = (g, h)
      by false l = (h.0, l)

  none-snoc : (x : List ℕ × K) (l : RowsOf K) (p : List ℕ) → fits x.0 p ≡ false → NoneFits l p → NoneFits (l ++ x ∷ []) p
  none-snoc x [] p f h = (f, tt)
  none-snoc x (y ∷ l) p f h = (h.0, none-snoc x l p f h.1)

  some-last : (x : List ℕ × K) (l : RowsOf K) (p : List ℕ) (key : K) → (x.1 ≡ key) × (fits x.0 p ≡ true) → SomeFits (l ++ x ∷ []) p key
  some-last x [] p key h = inl h
  some-last x (y ∷ l) p key h = inr (some-last x l p key h)

  some-front : (x : List ℕ × K) (l : RowsOf K) (p : List ℕ) (key : K) → SomeFits l p key → SomeFits (l ++ x ∷ []) p key
  some-front x [] p key h = absurd h
  some-front x (y ∷ l) p key (inl a) = inl a
  some-front x (y ∷ l) p key (inr b) = inr (some-front x l p key b)

  -- the router's rows are good, and answer as these do
  pub record Covers (rows list : RowsOf K) : Type 0 where
    pub good : AllGood rows
    pub answers : (p : List ℕ) (o : Option K) → Answers rows p o → Answers list p o

  covers-more : (x : List ℕ × K) (rows list : RowsOf K) → IsGood x.0 → Covers rows list → Covers (placed x rows) (list ++ x ∷ [])
  covers-more x rows list g c = record { good = good-placed x rows g c.good; answers = by }
    where
      some : (p : List ℕ) (key : K) → SomeFits (x ∷ rows) p key → SomeFits (list ++ x ∷ []) p key
      some p key (inl a) = some-last x list p key a
      some p key (inr b) = some-front x list p key (c.answers p (Some key) b)

      by : (p : List ℕ) (o : Option K) → Answers (placed x rows) p o → Answers (list ++ x ∷ []) p o
      by p None h = let n = none-placed x rows p h in none-snoc x list p n.0 (c.answers p None n.1)
      by p (Some key) h = some p key (some-placed x rows p key h)

-- how many parameters there are
abbrev pub params : List ℕ → ℕ
params [] = 0
params (x ∷ t) = cond (x == 256) (suc (params t)) (params t)

-- what a route's text reads as
abbrev pub Reads : Result Scan InsertError → List Part → Type 0
Reads (Ok s) parts = (s.pattern ≡ tokens parts) × (length s.names ≡ params (tokens parts))
Reads (Err e) parts = ⊥

-- what is tested of a pattern
abbrev pub is_fit : List Part → Bool
is_fit [] = false
is_fit (part ∷ parts) = is_tidy (part ∷ parts) && ltb (length (tokens (part ∷ parts))) 1000 && leb (params (tokens (part ∷ parts))) 2

-- the line is that row
pub record IsKin (r : Row) (e : Entry) : Type 0 where
  pub reads : Reads (parse_route e.0) r.pattern
  pub fit : is_fit r.pattern ≡ true
  pub method : e.1.method ≡ r.method
  pub route : route_with e.1.kind ≡ r.route

abbrev pub AllKin : List Row → List Entry → Type 0
AllKin [] [] = Unit {0}
AllKin [] (e ∷ es) = ⊥
AllKin (r ∷ rs) [] = ⊥
AllKin (r ∷ rs) (e ∷ es) = IsKin r e × AllKin rs es

-- the router keeps that row
pub record IsMade (r : Row) (t : List ℕ) (e : RouteOf Line) : Type 0 where
  pub here : t ≡ tokens r.pattern
  pub pattern : e.pattern ≡ tokens r.pattern
  pub names : length e.names ≡ params (tokens r.pattern)
  pub fit : is_fit r.pattern ≡ true
  pub method : e.value.method ≡ r.method
  pub route : route_with e.value.kind ≡ r.route

abbrev pub AllMade : List Row → RouterRows → Type 0
AllMade [] [] = Unit {0}
AllMade [] (x ∷ l) = ⊥
AllMade (r ∷ rs) [] = ⊥
AllMade (r ∷ rs) ((t, e) ∷ l) = IsMade r t e × AllMade rs l

all-made-more : (rs : List Row) (l : RouterRows) (r : Row) (t : List ℕ) (e : RouteOf Line) → AllMade rs l → IsMade r t e → AllMade (rs ++ r ∷ []) (l ++ (t, e) ∷ [])
all-made-more [] [] r t e h m = (m, tt)
all-made-more [] (x ∷ l) r t e h m = absurd h
all-made-more (q ∷ rs) [] r t e h m = absurd h
all-made-more (q ∷ rs) ((u, f) ∷ l) r t e h m = (h.0, all-made-more rs l r t e h.1 m)

pub tidy-of : (parts : List Part) → is_fit parts ≡ true → is_tidy parts ≡ true
tidy-of [] h = refl
tidy-of (part ∷ parts) h = (and_parts _ _ (and_parts _ _ h).0).0

IsGood-cons : (x : ℕ) (t : List ℕ) → x < 256 → IsGood t → IsGood (x ∷ t)
IsGood-cons x [] l h = omega arith
IsGood-cons x (y ∷ t) l h = (omega arith, (λ e. absurd (omega arith)), h)

good-word : (w t : List ℕ) → is_word w ≡ true → IsGood t → IsGood (w ++ t)
good-word [] t k h = h
good-word (c ∷ w) t k h =
    let a = and_parts (ltb c 128 && not (c == 47)) (is_word w) k in
    let l : ltb c 128 ≡ true = (and_parts (ltb c 128) (not (c == 47)) a.0).0 in
    let lt : c < 256 = grind (arith, nat_tests) in
    IsGood-cons c (w ++ t) lt (good-word w t a.1 h)

good-param : (t : List ℕ) → AtSlash t → IsGood t → IsGood (256 ∷ t)
good-param [] a h = omega arith
good-param (y ∷ t) a h = (omega arith, (λ e. a), h)

pub good-tokens : (parts : List Part) → is_tidy parts ≡ true → IsGood (tokens parts)
good-tokens [] h = tt
good-tokens (Word w ∷ parts) h =
    let a = and_parts (is_word w) (is_tidy parts) h in
    IsGood-cons 47 (w ++ tokens parts) (omega arith) (good-word w (tokens parts) a.0 (good-tokens parts a.1))
good-tokens (AName ∷ parts) h = IsGood-cons 47 (256 ∷ tokens parts) (omega arith) (good-param (tokens parts) (AtSlash-tokens parts) (good-tokens parts h))

pub record Covered (rs : List Row) (rows : RouterRows) : Type 0 where
  pub list : RouterRows
  pub made : AllMade rs list
  pub covers : Covers rows list

covered-one : (x : Result Scan InsertError) (r : Row) (line : Line) (done : List Row) (rows : RouterRows) → Reads x r.pattern → is_fit r.pattern ≡ true → line.method ≡ r.method → route_with line.kind ≡ r.route → Covered done rows → Covered (done ++ r ∷ []) (with_scan x line rows)
covered-one (Err e) r line done rows h f m k c = absurd h
covered-one (Ok s) r line done rows h f m k c =
    record {
      list = c.list ++ (s.pattern, route_from s line) ∷ [];
      made = all-made-more done c.list r s.pattern (route_from s line) c.made (record { here = h.0; pattern = h.0; names = h.1; fit = f; method = m; route = k });
      covers = covers-more (s.pattern, route_from s line) rows c.list (subst IsGood (sym h.0) (good-tokens r.pattern (tidy-of r.pattern f))) c.covers;
    }

inserted-is : (e : Entry) (rows : RouterRows) → inserted e rows ≡ with_scan (parse_route e.0) e.1 rows
unfolding inserted
inserted-is e rows = refl

pub covered : (rs : List Row) (es : List Entry) → AllKin rs es → (done : List Row) (rows : RouterRows) → Covered done rows → Covered (done ++ rs) (with_entries rows es)
covered [] [] h done rows c = subst (λ z. Covered z rows) (sym (append-nil done)) c
covered [] (e ∷ es) h done rows c = absurd h
covered (r ∷ rs) [] h done rows c = absurd h
covered (r ∷ rs) (e ∷ es) h done rows c =
    let k = h.0 in
    let one = covered-one (parse_route e.0) r e.1 done rows k.reads k.fit k.method k.route c in
    let two : Covered (done ++ r ∷ []) (inserted e rows) = subst (Covered (done ++ r ∷ [])) (sym (inserted-is e rows)) one in
    subst (λ z. Covered z (with_entries (inserted e rows) es)) (append_assoc done (r ∷ []) rs) (covered rs es h.1 (done ++ r ∷ []) (inserted e rows) two)

pub bytes_same : (a b : List ℕ) → bytes_eq a b ≡ true → a ≡ b
bytes_same [] [] h = refl
bytes_same [] (y ∷ b) h = absurd (true≢false (sym h))
bytes_same (x ∷ a) [] h = absurd (true≢false (sym h))
bytes_same (x ∷ a) (y ∷ b) h =
    let c = and_parts (x == y) (bytes_eq a b) h in
    ap (λ z. z ∷ a) (eqb-true x y c.0) ∙ ap (λ z. y ∷ z) (bytes_same a b c.1)

pub bytes_refl : (a : List ℕ) → bytes_eq a a ≡ true
bytes_refl [] = refl
bytes_refl (x ∷ a) = let e : (x == x) ≡ true = grind (arith, nat_tests) in rw e (bytes_refl a)

-- some path could fit both patterns
abbrev pub clash : List Part → List Part → Bool
clash [] [] = true
clash [] (q ∷ qs) = false
clash (p ∷ ps) [] = false
clash (Word v ∷ ps) (Word w ∷ qs) = bytes_eq v w && clash ps qs
clash (Word v ∷ ps) (AName ∷ qs) = clash ps qs
clash (AName ∷ ps) (q ∷ qs) = clash ps qs

-- the path after a slash, and what it fits then
record Word-fits (w : List ℕ) (parts : List Part) (p : List ℕ) : Type 0 where
  word : bytes_eq (before_slash p) w ≡ true
  rest : fits (tokens parts) (after_segment p) ≡ true

pub not-nil-fits : (part : Part) (parts : List Part) → fits (tokens (part ∷ parts)) [] ≡ true → ⊥
not-nil-fits part parts h = true≢false (sym h)

word-parts : (w : List ℕ) (parts : List Part) (b : ℕ) (p : List ℕ) → is_word w ≡ true → fits (tokens (Word w ∷ parts)) (b ∷ p) ≡ true → Word-fits w parts p
word-parts w parts b p k f =
    let a = and_parts (47 == b) (fits (w ++ tokens parts) p) f in
    let c = and_parts (bytes_eq (before_slash p) w) (fits (tokens parts) (after_segment p)) (sym (fits-word w (tokens parts) p k (AtSlash-tokens parts)) ∙ a.1) in
    record { word = c.0; rest = c.1 }

name-parts : (parts : List Part) (b : ℕ) (p : List ℕ) → fits (tokens (AName ∷ parts)) (b ∷ p) ≡ true → fits (tokens parts) (after_segment p) ≡ true
name-parts parts b p f =
    let a = and_parts (47 == b) (fits (256 ∷ tokens parts) p) f in
    (and_parts _ (fits (tokens parts) (after_segment p)) a.1).1

clashes : (ps qs : List Part) (path : List ℕ) → is_tidy ps ≡ true → is_tidy qs ≡ true → fits (tokens ps) path ≡ true → fits (tokens qs) path ≡ true → clash ps qs ≡ true
clashes [] [] path a b f g = refl
clashes [] (q ∷ qs) [] a b f g = absurd (not-nil-fits q qs g)
clashes [] (q ∷ qs) (x ∷ path) a b f g = absurd (true≢false (sym f))
clashes (p ∷ ps) [] [] a b f g = absurd (not-nil-fits p ps f)
clashes (p ∷ ps) [] (x ∷ path) a b f g = absurd (true≢false (sym g))
clashes (p ∷ ps) (q ∷ qs) [] a b f g = absurd (not-nil-fits p ps f)
clashes (Word v ∷ ps) (Word w ∷ qs) (x ∷ path) a b f g =
    let c = and_parts (is_word v) (is_tidy ps) a in
    let d = and_parts (is_word w) (is_tidy qs) b in
    let m = word-parts v ps x path c.0 f in
    let n = word-parts w qs x path d.0 g in
    let e : v ≡ w = sym (bytes_same _ _ m.word) ∙ bytes_same _ _ n.word in
    let s : bytes_eq v w ≡ true = ap (bytes_eq v) (sym e) ∙ bytes_refl v in
    rw s (clashes ps qs (after_segment path) c.1 d.1 m.rest n.rest)
clashes (Word v ∷ ps) (AName ∷ qs) (x ∷ path) a b f g =
    let c = and_parts (is_word v) (is_tidy ps) a in
    clashes ps qs (after_segment path) c.1 b (word-parts v ps x path c.0 f).rest (name-parts qs x path g)
clashes (AName ∷ ps) (Word w ∷ qs) (x ∷ path) a b f g =
    let d = and_parts (is_word w) (is_tidy qs) b in
    clashes ps qs (after_segment path) a d.1 (name-parts ps x path f) (word-parts w qs x path d.0 g).rest
clashes (AName ∷ ps) (AName ∷ qs) (x ∷ path) a b f g = clashes ps qs (after_segment path) a b (name-parts ps x path f) (name-parts qs x path g)

-- no path fits the pattern and one of these rows
abbrev pub is_apart : List Part → List Row → Bool
is_apart p [] = true
is_apart p (r ∷ rs) = not (clash p r.pattern) && is_apart p rs

-- no path fits two of these rows
abbrev pub are_apart : List Row → Bool
are_apart [] = true
are_apart (r ∷ rs) = is_apart r.pattern rs && are_apart rs

not-true : (v : Bool) → not v ≡ true → v ≡ true → ⊥
not-true true a b = true≢false (sym a)
not-true false a b = true≢false (sym b)

-- a row that the path doesn't fit serves nothing there
unserved : (r : Row) (p : List ℕ) → is_fit r.pattern ≡ true → AtSlash p → fits (tokens r.pattern) p ≡ false → method_route_by r (later_segments p) ≡ None
unserved r p k h f =
    let n : names_in r.pattern (later_segments p) ≡ None = names-law r.pattern p (tidy-of r.pattern k) h ∙ ap (λ v. cond v (all_names (taken_in (tokens r.pattern) p)) None) f in
    ap (λ z. with_route r.method (option_and_then r.route z)) n

pub none-served : (rs : List Row) (l : RouterRows) (p : List ℕ) → AllMade rs l → AtSlash p → NoneFits l p → method_route_at rs (later_segments p) ≡ None
none-served [] [] p m h n = refl
none-served [] (x ∷ l) p m h n = absurd m
none-served (r ∷ rs) [] p m h n = absurd m
none-served (r ∷ rs) ((t, e) ∷ l) p m h n =
    ap (λ z. or_next z (method_route_at rs (later_segments p))) (unserved r p m.0.fit h (sym (ap (λ z. fits z p) m.0.here) ∙ n.0))
    ∙ none-served rs l p m.1 h n.1

-- where the path fits a row, the rows that are apart from it serve nothing
others-unserved : (ps : List Part) (rs : List Row) (l : RouterRows) (p : List ℕ) → is_tidy ps ≡ true → fits (tokens ps) p ≡ true → is_apart ps rs ≡ true → AllMade rs l → AtSlash p → method_route_at rs (later_segments p) ≡ None
others-unserved ps [] l p k f a m h = refl
others-unserved ps (r ∷ rs) [] p k f a m h = absurd m
others-unserved ps (r ∷ rs) ((t, e) ∷ l) p k f a m h =
    let c = and_parts (not (clash ps r.pattern)) (is_apart ps rs) a in
    ap (λ z. or_next z (method_route_at rs (later_segments p))) (unserved r p m.0.fit h (by c.0 (fits (tokens r.pattern) p) refl))
    ∙ others-unserved ps rs l p k f c.1 m.1 h
  where
    by : not (clash ps r.pattern) ≡ true → (v : Bool) → fits (tokens r.pattern) p ≡ v → fits (tokens r.pattern) p ≡ false
    by c true g = absurd (not-true (clash ps r.pattern) c (clashes ps r.pattern p k (tidy-of r.pattern m.0.fit) f g))
    by c false g = g

or-none : (x : Option MethodRoute) → or_next x None ≡ x
or-none None = refl
or-none (Some x) = refl

-- the row that serves the path
pub record HasMatchingRow (rs : List Row) (p : List ℕ) (e : RouteOf Line) : Type 0 where
  pub row : Row
  pub made : IsMade row (tokens row.pattern) e
  pub fit : fits (tokens row.pattern) p ≡ true
  pub served : method_route_at rs (later_segments p) ≡ method_route_by row (later_segments p)
  pub apart : (ps : List Part) → is_apart ps rs ≡ true → not (clash ps row.pattern) ≡ true

made-again : (r : Row) (t : List ℕ) (e k : RouteOf Line) → k ≡ e → IsMade r t k → IsMade r (tokens r.pattern) e
made-again r t e k s m = subst (λ z. IsMade r (tokens r.pattern) z) s (record { here = refl; pattern = m.pattern; names = m.names; fit = m.fit; method = m.method; route = m.route })

pub one-served : (rs : List Row) (l : RouterRows) (p : List ℕ) (e : RouteOf Line) → AllMade rs l → AtSlash p → are_apart rs ≡ true → SomeFits l p e → HasMatchingRow rs p e
one-served [] [] p e m h a f = absurd f
one-served [] (x ∷ l) p e m h a f = absurd m
one-served (r ∷ rs) [] p e m h a f = absurd m
one-served (r ∷ rs) ((t, k) ∷ l) p e m h a (inl f) =
    let c = and_parts (is_apart r.pattern rs) (are_apart rs) a in
    let g : fits (tokens r.pattern) p ≡ true = sym (ap (λ z. fits z p) m.0.here) ∙ f.1 in
    record {
      row = r;
      made = made-again r t e k f.0 m.0;
      fit = g;
      served = ap (or_next (method_route_by r (later_segments p))) (others-unserved r.pattern rs l p (tidy-of r.pattern m.0.fit) g c.0 m.1 h) ∙ or-none (method_route_by r (later_segments p));
      apart = λ ps q. (and_parts (not (clash ps r.pattern)) (is_apart ps rs) q).0;
    }
one-served (r ∷ rs) ((t, k) ∷ l) p e m h a (inr f) = later (one-served rs l p e m.1 h c.1 f)
  where
    c : (is_apart r.pattern rs ≡ true) × (are_apart rs ≡ true)
    c = and_parts (is_apart r.pattern rs) (are_apart rs) a

    later : HasMatchingRow rs p e → HasMatchingRow (r ∷ rs) p e
    later s =
        record {
          row = s.row;
          made = s.made;
          fit = s.fit;
          served = ap (λ z. or_next z (method_route_at rs (later_segments p))) (unserved r p m.0.fit h (by s (fits (tokens r.pattern) p) refl)) ∙ s.served;
          apart = λ ps q. s.apart ps (and_parts (not (clash ps r.pattern)) (is_apart ps rs) q).1;
        }
      where
        by : HasMatchingRow rs p e → (v : Bool) → fits (tokens r.pattern) p ≡ v → fits (tokens r.pattern) p ≡ false
        by s true g = absurd (not-true (clash r.pattern s.row.pattern) (s.apart r.pattern c.0) (clashes r.pattern s.row.pattern p (tidy-of r.pattern m.0.fit) (tidy-of s.row.pattern s.made.fit) g s.fit))
        by s false g = g

-- no path fits two lines of the table
pub table-apart : are_apart table ≡ true
table-apart = refl

-- the tests of a route's text
abbrev is_read : Result Scan InsertError → List Part → Bool
is_read (Ok s) parts = bytes_eq s.pattern (tokens parts) && (length s.names == params (tokens parts))
is_read (Err e) parts = false

read_so : (x : Result Scan InsertError) (parts : List Part) → is_read x parts ≡ true → Reads x parts
read_so (Ok s) parts h =
    let a = and_parts (bytes_eq s.pattern (tokens parts)) (length s.names == params (tokens parts)) h in
    (bytes_same _ _ a.0, eqb-true _ _ a.1)
read_so (Err e) parts h = absurd (true≢false (sym h))

-- the texts of the entries read as their patterns, which pass their tests
abbrev are_read : List Entry → Bool
are_read [] = true
are_read (e ∷ es) = is_read (parse_route e.0) (pattern_of e.0) && is_fit (pattern_of e.0) && are_read es

kin_of : (es : List Entry) → are_read es ≡ true → AllKin (map row_of es) es
kin_of [] h = tt
kin_of (e ∷ es) h =
    let a = and_parts (is_read (parse_route e.0) (pattern_of e.0) && is_fit (pattern_of e.0)) (are_read es) h in
    let b = and_parts (is_read (parse_route e.0) (pattern_of e.0)) (is_fit (pattern_of e.0)) a.0 in
    (record { reads = read_so (parse_route e.0) (pattern_of e.0) b.0; fit = b.1; method = refl; route = refl }, kin_of es a.1)

entries_read : are_read entries ≡ true
unfolding matchit_on_literals
entries_read = refl

pub kin : AllKin table entries
kin = kin_of entries entries_read
