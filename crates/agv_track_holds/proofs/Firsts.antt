-- Lists in which each thing stands once, where it first stands.
use Rattle.std.proofs.Common.{◌≡◌, ◌↔◌, Bool, true, false, cond, not, ◌||◌, if◌then◌else◌, List, [], ◌∷◌, ◌++◌, filter, Contains, append_assoc, refl, sym, ap, subst, ◌∙◌}
use Rattle.std.specs.List.{list_any, AllByRecursion, IsDistinct}
use Rattle.std.proofs.lemmas.List.{append-nil}
use Rattle.std.proofs.lemmas.List.Elements.{filter-append}
use Rattle.std.proofs.lemmas.List.Folds.{list_any-append}
use Rattle.std.proofs.lemmas.Map.Views.{tells_apart, Contains-from_any, list_any-from_Contains}
use Rattle.agv_header.specs.ThingOrder.{thing_eq, thing_eq-equivalence, thing_cmp-IsAntisymmetric}
use Rattle.agv_header.specs.declared.key.Thing.{Thing}
use Rattle.agv_track_holds.specs.Footprints.{once}
use Rattle.agv_track_holds.specs.OrderedSet.{with_thing, with_things}

-- ---- `==` of things
pub same_thing : (a b : Thing) → thing_eq a b ≡ true → a ≡ b
same_thing = tells_apart thing_cmp-IsAntisymmetric

pub thing_itself : (a : Thing) → thing_eq a a ≡ true
thing_itself a = thing_eq-equivalence.refl a

either_way : (a b : Thing) → thing_eq a b ≡ thing_eq b a
either_way a b = thing_eq-equivalence.symm a b

or_false : (a : Bool) → (a || false) ≡ a
or_false true = refl
or_false false = refl

or_true : (a : Bool) → (a || true) ≡ true
or_true true = refl
or_true false = refl

-- the set of the things of a list, with one more
pub knows_more : (x q : Thing) (xs : List Thing) (has had : Bool) → has ≡ cond (thing_eq x q) true had → had ≡ list_any (thing_eq q) xs → has ≡ list_any (thing_eq q) (xs ++ x ∷ [])
knows_more x q xs has had updates knew =
    updates ∙ turned (thing_eq x q) had ∙ ap (λ b. had || b) (either_way x q ∙ sym (or_false (thing_eq q x))) ∙ ap (λ b. b || (thing_eq q x || false)) knew ∙ sym (list_any-append (thing_eq q) xs (x ∷ []))
  where
    turned : (a b : Bool) → cond a true b ≡ (b || a)
    turned true b = sym (or_true b)
    turned false b = sym (or_false b)

-- ---- the things of a list but one
abbrev but : Thing → List Thing → List Thing
but x xs = filter (λ (other : Thing). not (thing_eq x other)) xs

-- what is not the one that is left out stays
any-but : (q x : Thing) (xs : List Thing) → thing_eq q x ≡ false → list_any (thing_eq q) (but x xs) ≡ list_any (thing_eq q) xs
any-but q x [] apart = refl
any-but q x (y ∷ xs) apart = by_test (any-but q x xs apart) (thing_eq x y) refl
  where
    by_test : list_any (thing_eq q) (but x xs) ≡ list_any (thing_eq q) xs → (b : Bool) → thing_eq x y ≡ b → list_any (thing_eq q) (cond (not (thing_eq x y)) (y ∷ but x xs) (but x xs)) ≡ (thing_eq q y || list_any (thing_eq q) xs)
    by_test later true same =
        let other : thing_eq q y ≡ false = either_way q y ∙ sym (thing_eq-equivalence.congr x y q same) ∙ either_way x q ∙ apart in
        ap (λ b. list_any (thing_eq q) (cond (not b) (y ∷ but x xs) (but x xs))) same ∙ later ∙ sym (ap (λ b. b || list_any (thing_eq q) xs) other)
    by_test later false differs =
        ap (λ b. list_any (thing_eq q) (cond (not b) (y ∷ but x xs) (but x xs))) differs ∙ ap (λ b. thing_eq q y || b) later

-- the one that is left out, added at the end
but-more : (x y : Thing) (xs : List Thing) (b : Bool) → thing_eq x y ≡ b → but y (xs ++ x ∷ []) ≡ (if b then but y xs else (but y xs ++ x ∷ []))
but-more x y xs b is = filter-append (λ (other : Thing). not (thing_eq y other)) xs (x ∷ []) ∙ ap (λ c. but y xs ++ cond (not c) (x ∷ []) []) (either_way y x ∙ is) ∙ by_test b
  where
    by_test : (b : Bool) → (but y xs ++ cond (not b) (x ∷ []) []) ≡ (if b then but y xs else (but y xs ++ x ∷ []))
    by_test true = append-nil (but y xs)
    by_test false = refl

-- ---- one more thing
with-first : (x y : Thing) (xs : List Thing) (a b : Bool) → thing_eq x y ≡ a → list_any (thing_eq x) xs ≡ b
    → y ∷ but y (if b then xs else (xs ++ x ∷ [])) ≡ (if (a || list_any (thing_eq x) (but y xs)) then y ∷ but y xs else (y ∷ but y xs ++ x ∷ []))
with-first x y xs true true same known = refl
with-first x y xs true false same known = ap (λ rest. y ∷ rest) (but-more x y xs true same)
with-first x y xs false true differs known = sym (ap (λ b. if b then y ∷ but y xs else (y ∷ but y xs ++ x ∷ [])) (any-but x y xs differs ∙ known))
with-first x y xs false false differs known =
    ap (λ rest. y ∷ rest) (but-more x y xs false differs) ∙ sym (ap (λ b. if b then y ∷ but y xs else (y ∷ but y xs ++ x ∷ [])) (any-but x y xs differs ∙ known))

pub once-more : (xs : List Thing) (x : Thing) → once (xs ++ x ∷ []) ≡ with_thing (once xs) x
once-more [] x = refl
once-more (y ∷ xs) x =
    ap (λ rest. y ∷ but y rest) (once-more xs x) ∙ with-first x y (once xs) (thing_eq x y) (list_any (thing_eq x) (once xs)) refl refl

-- ---- the same things, none of them twice
pub any-once : (q : Thing) (xs : List Thing) → list_any (thing_eq q) (once xs) ≡ list_any (thing_eq q) xs
any-once q [] = refl
any-once q (x ∷ xs) = by_test (any-once q xs) (thing_eq q x) refl
  where
    by_test : list_any (thing_eq q) (once xs) ≡ list_any (thing_eq q) xs → (b : Bool) → thing_eq q x ≡ b → (thing_eq q x || list_any (thing_eq q) (but x (once xs))) ≡ (thing_eq q x || list_any (thing_eq q) xs)
    by_test later true same = ap (λ b. b || list_any (thing_eq q) (but x (once xs))) same ∙ sym (ap (λ b. b || list_any (thing_eq q) xs) same)
    by_test later false differs = ap (λ b. thing_eq q x || b) (any-but q x (once xs) differs ∙ later)

all-but : (P : Thing → Type 0) (x : Thing) (xs : List Thing) → AllByRecursion P xs → AllByRecursion P (but x xs)
all-but P x [] all = tt
all-but P x (y ∷ xs) all = by_test (all-but P x xs all.1) (not (thing_eq x y))
  where
    by_test : AllByRecursion P (but x xs) → (b : Bool) → AllByRecursion P (cond b (y ∷ but x xs) (but x xs))
    by_test later true = (all.0, later)
    by_test later false = later

none-but : (x : Thing) (xs : List Thing) → AllByRecursion (λ y. thing_eq x y ≡ false) (but x xs)
none-but x [] = tt
none-but x (y ∷ xs) = by_test (none-but x xs) (thing_eq x y) refl
  where
    by_test : AllByRecursion (λ z. thing_eq x z ≡ false) (but x xs) → (b : Bool) → thing_eq x y ≡ b → AllByRecursion (λ z. thing_eq x z ≡ false) (cond (not (thing_eq x y)) (y ∷ but x xs) (but x xs))
    by_test later true same = subst (λ b. AllByRecursion (λ z. thing_eq x z ≡ false) (cond (not b) (y ∷ but x xs) (but x xs))) (sym same) later
    by_test later false differs = subst (λ b. AllByRecursion (λ z. thing_eq x z ≡ false) (cond (not b) (y ∷ but x xs) (but x xs))) (sym differs) (differs, later)

distinct-but : (x : Thing) (xs : List Thing) → IsDistinct thing_eq xs → IsDistinct thing_eq (but x xs)
unfolding IsDistinct
distinct-but x [] apart = tt
distinct-but x (y ∷ xs) apart = by_test (distinct-but x xs apart.1) (not (thing_eq x y))
  where
    by_test : IsDistinct thing_eq (but x xs) → (b : Bool) → IsDistinct thing_eq (cond b (y ∷ but x xs) (but x xs))
    by_test later true = (all-but (λ z. thing_eq y z ≡ false) x xs apart.0, later)
    by_test later false = later

pub distinct-once : (xs : List Thing) → IsDistinct thing_eq (once xs)
unfolding IsDistinct
distinct-once [] = tt
distinct-once (x ∷ xs) = (none-but x (once xs), distinct-but x (once xs) (distinct-once xs))

-- what stands in a list stands in it once, and the other way round
pub contains-once : (q : Thing) (xs : List Thing) → Contains (once xs) q ↔ Contains xs q
contains-once q xs = (
  λ there. Contains-from_any same_thing q xs (sym (any-once q xs) ∙ list_any-from_Contains thing_eq-equivalence q (once xs) there),
  λ there. Contains-from_any same_thing q (once xs) (any-once q xs ∙ list_any-from_Contains thing_eq-equivalence q xs there),
)

-- ---- one thing after the other
pub once-things : (xs ys : List Thing) → with_things (once xs) ys ≡ once (xs ++ ys)
once-things xs [] = ap once (sym (append-nil xs))
once-things xs (y ∷ ys) = ap (λ zs. with_things zs ys) (sym (once-more xs y)) ∙ once-things (xs ++ y ∷ []) ys ∙ ap once (append_assoc xs (y ∷ []) ys)

pub things-append : (zs xs ys : List Thing) → with_things zs (xs ++ ys) ≡ with_things (with_things zs xs) ys
things-append zs [] ys = refl
things-append zs (x ∷ xs) ys = things-append (with_thing zs x) xs ys
