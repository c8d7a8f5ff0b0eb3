-- No path fits two lines of the table.
use Rattle.std.proofs.Common.{◌≡◌, ℕ, zero, suc, ◌<◌, List, [], ◌∷◌, length, get_or, Option, Some, None, Bool, true, false, cond, not, refl, sym, ap, ◌∙◌, is_some, arith}
use Rattle.std.proofs.lemmas.Bool.{and_parts}
use Rattle.std.specs.Prelude.{bytes_eq, option_map}
use mathlib.Core.Bool.{true≢false}
use Rattle.agv_header.specs.Name.{is_name}
use Rattle.agv_face_http.specs.routing.Paths.{Part, Word, AName, names_in}
use Rattle.agv_face_http.specs.routing.Table.{Row}
use Rattle.agv_face_http.proofs.routing.RouterLines.{clash, is_apart, are_apart, bytes_same, bytes_refl}

record BothHold (u : Bool) (x : Option (List (List ℕ))) : Type 0 where
  test : u ≡ true
  some : is_some x ≡ true

both-hold : (u : Bool) (x : Option (List (List ℕ))) → is_some (cond u x None) ≡ true → BothHold u x
both-hold true x h = record { test = refl; some = h }
both-hold false x h = absurd (true≢false (sym h))

mapped : (f : List (List ℕ) → List (List ℕ)) (x : Option (List (List ℕ))) → is_some (option_map f x) ≡ true → is_some x ≡ true
mapped f None h = h
mapped f (Some y) h = refl

named : (parts : List Part) (s : List ℕ) (ss : List (List ℕ)) → is_some (names_in (AName ∷ parts) (s ∷ ss)) ≡ true → is_some (names_in parts ss) ≡ true
named parts s ss h = mapped (λ names. s ∷ names) (names_in parts ss) (both-hold (is_name s) (option_map (λ names. s ∷ names) (names_in parts ss)) h).some

pub names-clash : (ps qs : List Part) (ss : List (List ℕ)) → is_some (names_in ps ss) ≡ true → is_some (names_in qs ss) ≡ true → clash ps qs ≡ true
names-clash [] [] ss f g = refl
names-clash [] (q ∷ qs) [] f g = absurd (true≢false (sym g))
names-clash [] (q ∷ qs) (s ∷ ss) f g = absurd (true≢false (sym f))
names-clash (p ∷ ps) [] [] f g = absurd (true≢false (sym f))
names-clash (p ∷ ps) [] (s ∷ ss) f g = absurd (true≢false (sym g))
names-clash (p ∷ ps) (q ∷ qs) [] f g = absurd (true≢false (sym f))
names-clash (Word v ∷ ps) (Word w ∷ qs) (s ∷ ss) f g =
    let a = both-hold (bytes_eq s v) (names_in ps ss) f in
    let b = both-hold (bytes_eq s w) (names_in qs ss) g in
    let e : v ≡ w = sym (bytes_same s v a.test) ∙ bytes_same s w b.test in
    let t : bytes_eq v w ≡ true = ap (bytes_eq v) (sym e) ∙ bytes_refl v in
    rw t (names-clash ps qs ss a.some b.some)
names-clash (Word v ∷ ps) (AName ∷ qs) (s ∷ ss) f g = names-clash ps qs ss (both-hold (bytes_eq s v) (names_in ps ss) f).some (named qs s ss g)
names-clash (AName ∷ ps) (Word w ∷ qs) (s ∷ ss) f g = names-clash ps qs ss (named ps s ss f) (both-hold (bytes_eq s w) (names_in qs ss) g).some
names-clash (AName ∷ ps) (AName ∷ qs) (s ∷ ss) f g = names-clash ps qs ss (named ps s ss f) (named qs s ss g)

not-true : (v : Bool) → not v ≡ true → v ≡ true → ⊥
not-true true a b = true≢false (sym a)
not-true false a b = true≢false (sym b)

apart-at : (p : List Part) (rs : List Row) (j : ℕ) (d : Row) → is_apart p rs ≡ true → j < length rs → clash p (get_or rs j d).pattern ≡ true → ⊥
apart-at p [] j d a l c = absurd (omega arith)
apart-at p (r ∷ rs) zero d a l c = not-true _ (and_parts (not (clash p r.pattern)) (is_apart p rs) a).0 c
apart-at p (r ∷ rs) (suc j) d a l c = apart-at p rs j d (and_parts (not (clash p r.pattern)) (is_apart p rs) a).1 (omega arith) c

pub apart-pairs : (rs : List Row) (i j : ℕ) (d : Row) → are_apart rs ≡ true → i < j → j < length rs → clash (get_or rs i d).pattern (get_or rs j d).pattern ≡ true → ⊥
apart-pairs [] i j d a k l c = absurd (omega arith)
apart-pairs (r ∷ rs) zero zero d a k l c = absurd (omega arith)
apart-pairs (r ∷ rs) zero (suc j) d a k l c = apart-at r.pattern rs j d (and_parts (is_apart r.pattern rs) (are_apart rs) a).0 (omega arith) c
apart-pairs (r ∷ rs) (suc i) zero d a k l c = absurd (omega arith)
apart-pairs (r ∷ rs) (suc i) (suc j) d a k l c = apart-pairs rs i j d (and_parts (is_apart r.pattern rs) (are_apart rs) a).1 (omega arith) (omega arith) c
