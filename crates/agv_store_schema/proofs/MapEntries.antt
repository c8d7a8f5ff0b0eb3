-- The entries of a finite map that has gained an entry or lost one, and the entry of a key.
use Rattle.std.proofs.Common.{◌≡◌, ◌&&◌, not, Bool, true, false, cond, T, List, [], ◌∷◌, Option, Some, None, Ordering, Less, Equal, Greater, IsPermutation, is_eq, is_lt, filter, refl, sym, ap, ap₂, subst, ◌∙◌}
use Rattle.std.proofs.lemmas.List.Sorted.{IsPermutation-refl, IsPermutation-cons, IsPermutation-middle, IsPermutation-trans}
use Rattle.std.specs.Cmp.{IsTotalOrder, Equal-is, alike_right, eq_by_cmp_equiv}
use Rattle.std.specs.FinMap.{FinMap, IsAntisymmetric, get, insert, remove, entries, find, put, is_sorted, get-entries, get-remove, entries_sorted, entries-insert, from_sorted, entries-from_sorted, get-from_sorted, same_map}
use Rattle.std.specs.FinMap.Entries.{below_all, by_order, where_key, is_sorted-where_key, find-where_key}
use Rattle.std.specs.List.{AllByRecursion}
use Rattle.std.specs.Ordering.{eq_by_cmp}
use Rattle.sqlite_trees.proofs.ListLemmas.{all_weaker, filter_all, filter_none, IsPermutation-same}

pub left : (a b : Bool) → T (a && b) → T a
left true b p = tt
left false b p = p

pub right : (a b : Bool) → T (a && b) → T b
right true b p = p
right false b p = absurd p

less : (o : Ordering) → T (is_lt o) → o ≡ Less
less Less p = refl
less Equal p = absurd p
less Greater p = absurd p

turned : {A : Type 0} (b : Bool) (x y : A) → cond (not b) x y ≡ cond b y x
turned true x y = refl
turned false x y = refl

flipped : {A : Type 0} (a b : A) (xs : List A) → IsPermutation (a ∷ b ∷ xs) (b ∷ a ∷ xs)
flipped a b xs = IsPermutation-middle (a ∷ []) b xs

-- the entry of a key, if there is one
abbrev pub at_key : {K X : Type 0} → K → Option X → List (K × X)
at_key k None = []
at_key k (Some x) = (k, x) ∷ []

-- the key is another one than k
abbrev is_other : {K : Type 0} → (K → K → Ordering) → K → K → Bool
is_other R k q = not (eq_by_cmp R k q)

-- the keys of a list are after x
pub above : {K X : Type 0} (R : K → K → Ordering) (x : K) (es : List (K × X)) → T (below_all R x es) → AllByRecursion (λ (e : K × X). R x e.0 ≡ Less) es
above R x [] h = tt
above R x (e ∷ es) h = (less _ (left _ _ h), above R x es (right _ _ h))

module _ {K X : Type 0} {R : K → K → Ordering} (total : IsTotalOrder R) (apart : IsAntisymmetric R) where
  -- no entry of a list after x has the key k, which is not after x
  past_less : (k x : K) (es : List (K × X)) → R k x ≡ Less → T (below_all R x es) → AllByRecursion (λ (e : K × X). eq_by_cmp R k e.0 ≡ false) es
  past_less k x es p h = all_weaker _ _ (λ e q. ap is_eq (total.trans k x e.0 p q)) es (above R x es h)

  past_tied : (k x : K) (es : List (K × X)) → R k x ≡ Equal → T (below_all R x es) → AllByRecursion (λ (e : K × X). eq_by_cmp R k e.0 ≡ false) es
  past_tied k x es p h = all_weaker _ _ (λ e q. ap is_eq (total.congr k x e.0 p ∙ q)) es (above R x es h)

  kept : (k : K) (es : List (K × X)) → AllByRecursion (λ (e : K × X). eq_by_cmp R k e.0 ≡ false) es → where_key R (is_other R k) es ≡ es
  kept k es h = filter_all _ es (all_weaker _ _ (λ e q. ap not q) es h)

  -- an entry that is put stands somewhere among those of other keys
  put-permuted : (k : K) (v : X) (es : List (K × X)) → T (is_sorted R es) → IsPermutation ((k, v) ∷ where_key R (is_other R k) es) (put R k v es)
  put-permuted k v [] s = IsPermutation-refl _
  put-permuted k v (e ∷ es) s =
      let others = where_key R (is_other R k) es in
      elim (R k e.0) as (λ r. R k e.0 ≡ r → IsPermutation ((k, v) ∷ cond (not (is_eq r)) (e ∷ others) others) (by_order r ((k, v) ∷ e ∷ es) ((e.0, v) ∷ es) (e ∷ put R k v es))) [
        | Less ↦ λ p. IsPermutation-same _ _ (ap (λ l. (k, v) ∷ e ∷ l) (kept k es (past_less k e.0 es p (left _ _ s))))
        | Equal ↦ λ p. IsPermutation-same _ _ (ap₂ (λ (q : K) l. (q, v) ∷ l) (apart k e.0 p) (kept k es (past_tied k e.0 es p (left _ _ s))))
        | Greater ↦ λ p. IsPermutation-trans _ _ _ (flipped (k, v) e others) (IsPermutation-cons e _ _ (put-permuted k v es (right _ _ s)))
      ] refl

  -- the entries without that of a key
  pub entries-remove : (m : FinMap R X) (k : K) → entries (remove m k) ≡ where_key R (is_other R k) (entries m)
  entries-remove m k =
      let es = where_key R (is_other R k) (entries m) in
      let sorted = is_sorted-where_key R (is_other R k) (entries m) (entries_sorted m) in
      let same : remove m k ≡ from_sorted es = same_map total apart _ _ (λ q.
      get-remove total m k q
      ∙ ap (λ b. cond b None (get m q)) ((eq_by_cmp_equiv total).symm q k)
      ∙ ap (λ found. cond (eq_by_cmp R k q) None found) (get-entries m q)
      ∙ sym (turned (eq_by_cmp R k q) _ _)
      ∙ sym (get-from_sorted R es q sorted ∙ find-where_key R (is_other R k) q (λ x t. ap (λ r. not (is_eq r)) (sym (alike_right total q x k t))) (entries m))) in
      ap entries same ∙ entries-from_sorted R es sorted

  -- the entries with one written
  pub entries-insert-permuted : (m : FinMap R X) (k : K) (v : X) → IsPermutation ((k, v) ∷ entries (remove m k)) (entries (insert m k v))
  entries-insert-permuted m k v =
      subst (λ es. IsPermutation ((k, v) ∷ entries (remove m k)) es) (sym (entries-insert total m k v))
      (subst (λ es. IsPermutation ((k, v) ∷ es) (put R k v (entries m))) (sym (entries-remove m k)) (put-permuted k v (entries m) (entries_sorted m)))

  one_entry : (k : K) (es : List (K × X)) → T (is_sorted R es) → filter (λ (e : K × X). eq_by_cmp R k e.0) es ≡ at_key k (find R k es)
  one_entry k [] s = refl
  one_entry k (e ∷ es) s =
      let more = filter (λ (e : K × X). eq_by_cmp R k e.0) es in
      elim (eq_by_cmp R k e.0) as (λ b. eq_by_cmp R k e.0 ≡ b → cond b (e ∷ more) more ≡ at_key k (cond b (Some e.1) (find R k es))) [
        | true ↦ λ t.
            let tied = (Equal-is (R k e.0)).0 t in
            ap₂ (λ (q : K) l. (q, e.1) ∷ l) (sym (apart k e.0 tied)) (filter_none _ es (past_tied k e.0 es tied (left _ _ s)))
        | false ↦ λ t. one_entry k es (right _ _ s)
      ] refl

  -- the entry of a key
  pub entries-at_key : (m : FinMap R X) (k : K) → filter (λ (e : K × X). eq_by_cmp R k e.0) (entries m) ≡ at_key k (get m k)
  entries-at_key m k = one_entry k (entries m) (entries_sorted m) ∙ ap (at_key k) (sym (get-entries m k))
