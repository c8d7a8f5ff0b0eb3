-- What is kept in the order of its keys is listed so.
use Rattle.std.proofs.Common.{◌≡◌, ◌&&◌, ◌||◌, ◌+◌, add-one, cond, Bool, true, false, T, List, [], ◌∷◌, length, refl, Ordering, sym, ap, ◌∙◌, subst}
use Rattle.std.specs.declared.cmp.Ordering.TheVariants.{Less}
use Rattle.std.specs.Cmp.{IsTotalOrder}
use Rattle.std.specs.FinMap.{IsAntisymmetric, get-from_entries, get-from_sorted, entries, entries-from_sorted, from_entries, from_sorted, len, len-entries, same_map}
use Rattle.std.specs.FinMap.Entries.{below_all, is_sorted}
use Rattle.std.specs.FinSet as set
use Rattle.std.specs.List.{AllByRecursion, list_any}
use Rattle.std.specs.List.Sorted.{IsStrictlySortedBy}
use Rattle.std.specs.Map.{keys_of}
use Rattle.std.specs.Ordering.{eq_by_cmp, is_eq, is_lt}
use Rattle.std.proofs.lemmas.Map.Keys.{sorted_head, sorted_tail}

pub both : (a b : Bool) → T a → T b → T (a && b)
both true b p q = q
both false b p q = p

pub is_less : (o : Ordering) → o ≡ Less → T (is_lt o)
is_less o e = subst (λ r. T (is_lt r)) (sym e) tt

module _ {K X : Type 0} (R : K → K → Ordering) where
  below-from : (k : K) (es : List (K × X)) → AllByRecursion (λ y. R k y ≡ Less) (keys_of es) → T (below_all R k es)
  below-from k [] below = tt
  below-from k (e ∷ es) below = both _ _ (is_less _ below.0) (below-from k es below.1)

  -- the list's keys strictly rise
  pub sorted-from : (es : List (K × X)) → IsStrictlySortedBy R (keys_of es) → T (is_sorted R es)
  sorted-from [] ordered = tt
  sorted-from (e ∷ es) ordered = both _ _ (below-from e.0 es (sorted_head R e.0 (keys_of es) ordered)) (sorted-from es (sorted_tail R e.0 (keys_of es) ordered))

module _ {K X : Type 0} {R : K → K → Ordering} (total : IsTotalOrder R) (apart : IsAntisymmetric R) where
  -- the map of a list in order lists it
  pub entries-sorted : (es : List (K × X)) → T (is_sorted R es) → entries (from_entries {R = R} es) ≡ es
  entries-sorted es ordered =
      ap entries (same_map total apart (from_entries es) (from_sorted es) (λ q. get-from_entries total es q ∙ sym (get-from_sorted R es q ordered)))
      ∙ entries-from_sorted R es ordered

  pub entries-shown : (es : List (K × X)) → IsStrictlySortedBy R (keys_of es) → entries (from_entries {R = R} es) ≡ es
  entries-shown es ordered = entries-sorted es (sorted-from R es ordered)

  -- and has as many
  pub len-shown : (es : List (K × X)) → IsStrictlySortedBy R (keys_of es) → len (from_entries {R = R} es) ≡ length es
  len-shown es ordered = len-entries _ ∙ ap length (entries-shown es ordered)

-- ---- sets
module _ {K : Type 0} {R : K → K → Ordering} (total : IsTotalOrder R) where
  none-below : (k : K) (ks : List K) → AllByRecursion (λ y. R k y ≡ Less) ks → list_any (eq_by_cmp R k) ks ≡ false
  none-below k [] below = refl
  none-below k (x ∷ ks) below = ap (λ o. is_eq o || list_any (eq_by_cmp R k) ks) below.0 ∙ none-below k ks below.1

  -- the set of keys in order has as many
  pub set_len-shown : (ks : List K) → IsStrictlySortedBy R ks → set.len (set.from_list {R = R} ks) ≡ length ks
  set_len-shown [] ordered = set.len-empty R
  set_len-shown (k ∷ ks) ordered =
      set.len-insert total (set.from_list ks) k
      ∙ ap (λ b. cond b (set.len (set.from_list {R = R} ks)) (set.len (set.from_list {R = R} ks) + 1)) (set.contains-from_list total ks k ∙ none-below k ks (sorted_head R k ks ordered))
      ∙ ap (λ n. n + 1) (set_len-shown ks (sorted_tail R k ks ordered))
      ∙ add-one (length ks)
