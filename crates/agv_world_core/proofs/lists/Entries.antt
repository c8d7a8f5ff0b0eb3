-- The entries of a finite map: at the key of each the map has its value.
use Rattle.std.proofs.Common.{◌≡◌, ◌&&◌, Bool, true, false, cond, T, List, [], ◌∷◌, Option, Some, None, Ordering, Less, Equal, Greater, is_eq, is_lt, unwrap_or, refl, sym, ap, ◌∙◌}
use Rattle.std.specs.Cmp.{IsTotalOrder, tied_itself, Equal-is}
use Rattle.std.specs.FinMap.{FinMap, IsAntisymmetric, get, entries, find, get-entries, entries_sorted}
use Rattle.std.specs.FinMap.Entries.{below_all, is_sorted}
use Rattle.std.specs.List.{AllByRecursion}
use Rattle.std.specs.Ordering.{eq_by_cmp, ordering_reverse}

pub no_more : {A : Type 0} (x : A) → None ≡ Some x → ⊥
no_more x e = cc

pub same_Some : {A : Type 0} (x y : A) → Some x ≡ Some y → x ≡ y
same_Some x y e = ap (λ o. unwrap_or o x) e

-- two values that are there alike are one
pub alike : {Y : Type 0} (x y : Option Y) → ((z : Y) → x ≡ Some z → y ≡ Some z) → ((z : Y) → y ≡ Some z → x ≡ Some z) → x ≡ y
alike None None f g = refl
alike None (Some y) f g = g y refl
alike (Some x) y f g = sym (f x refl)

left : (a b : Bool) → T (a && b) → T a
left true b p = tt
left false b p = p

right : (a b : Bool) → T (a && b) → T b
right true b p = p
right false b p = absurd p

less : (o : Ordering) → T (is_lt o) → o ≡ Less
less Less p = refl
less Equal p = absurd p
less Greater p = absurd p

pub is_same : {K : Type 0} {R : K → K → Ordering} → IsAntisymmetric R → (q k : K) → eq_by_cmp R q k ≡ true → q ≡ k
is_same {R} apart q k e = apart q k ((Equal-is (R q k)).0 e)

turned : {K : Type 0} {R : K → K → Ordering} → IsTotalOrder R → (x y : K) → R x y ≡ Less → is_eq (R y x) ≡ false
turned total x y h = ap is_eq (total.antisymm y x ∙ ap ordering_reverse h)

module _ {K X : Type 0} {R : K → K → Ordering} (total : IsTotalOrder R) where
  lift : (f : K × X) (es xs : List (K × X)) → T (below_all R f.0 xs) → AllByRecursion (λ (e : K × X). find R e.0 es ≡ Some e.1) xs → AllByRecursion (λ (e : K × X). find R e.0 (f ∷ es) ≡ Some e.1) xs
  lift f es [] below h = tt
  lift f es (x ∷ xs) below h = (ap (λ t. cond t (Some f.1) (find R x.0 es)) (turned total f.0 x.0 (less _ (left _ _ below))) ∙ h.0, lift f es xs (right _ _ below) h.1)

  found_sorted : (es : List (K × X)) → T (is_sorted R es) → AllByRecursion (λ (e : K × X). find R e.0 es ≡ Some e.1) es
  found_sorted [] s = tt
  found_sorted (f ∷ es) s = (ap (λ r. cond (is_eq r) (Some f.1) (find R f.0 es)) (tied_itself total f.0), lift f es es (left _ _ s) (found_sorted es (right _ _ s)))

  in_map : (m : FinMap R X) (xs : List (K × X)) → AllByRecursion (λ (e : K × X). find R e.0 (entries m) ≡ Some e.1) xs → AllByRecursion (λ (e : K × X). get m e.0 ≡ Some e.1) xs
  in_map m [] h = tt
  in_map m (e ∷ xs) h = (get-entries m e.0 ∙ h.0, in_map m xs h.1)

  -- the map has the value of each entry at its key
  pub entries_found : (m : FinMap R X) → AllByRecursion (λ (e : K × X). get m e.0 ≡ Some e.1) (entries m)
  entries_found m = in_map m (entries m) (found_sorted (entries m) (entries_sorted m))
