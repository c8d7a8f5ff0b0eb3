-- The rows that the entries of a map give, where a test tells those of a key.
use Rattle.std.proofs.Common.{◌≡◌, ◌&&◌, not, Bool, true, false, cond, T, List, [], ◌∷◌, ◌++◌, Some, None, Ordering, Less, Equal, Greater, IsPermutation, is_eq, is_lt, filter, flat_map, append_assoc, append-nil, refl, sym, ap, ap₂, subst, ◌∙◌}
use Rattle.std.proofs.lemmas.List.Sorted.{IsPermutation-refl, IsPermutation-append_comm, IsPermutation-append_left, IsPermutation-append_right, IsPermutation-trans}
use Rattle.std.specs.Cmp.{IsTotalOrder, Equal-is, alike_right, eq_by_cmp_equiv}
use Rattle.std.specs.FinMap.{FinMap, IsAntisymmetric, get, insert, remove, entries, find, put, is_sorted, get-entries, get-remove, entries_sorted, entries-insert, from_sorted, entries-from_sorted, get-from_sorted, same_map}
use Rattle.std.specs.FinMap.Entries.{below_all, by_order, where_key, is_sorted-where_key, find-where_key}
use Rattle.std.specs.List.{AllByRecursion}
use Rattle.std.specs.Ordering.{eq_by_cmp}
use Rattle.agv_store_rows.specs.TripRows.{rows_if}
use Rattle.agv_store_rows.proofs.Elements.{all_weaker, filter_all, filter_none, filter-flat_map}

left : (a b : Bool) → T (a && b) → T a
left true b p = tt
left false b p = p

right : (a b : Bool) → T (a && b) → T b
right true b p = p
right false b p = absurd p

less : (o : Ordering) → T (is_lt o) → o ≡ Less
less Less p = refl
less Equal p = absurd p
less Greater p = absurd p

turned : {A : Type 0} (b : Bool) (x y : A) → cond (not b) x y ≡ cond b y x
turned true x y = refl
turned false x y = refl

-- ---- the keys of a list in order

-- the keys of a list are after x
pub above : {K X : Type 0} (R : K → K → Ordering) (x : K) (es : List (K × X)) → T (below_all R x es) → AllByRecursion (λ (e : K × X). R x e.0 ≡ Less) es
above R x [] h = tt
above R x (e ∷ es) h = (less _ (left _ _ h), above R x es (right _ _ h))

pub first_above : {K X : Type 0} (R : K → K → Ordering) (e : K × X) (es : List (K × X)) → T (is_sorted R (e ∷ es)) → AllByRecursion (λ (f : K × X). R e.0 f.0 ≡ Less) es
first_above R e es s = above R e.0 es (left _ _ s)

pub rest_sorted : {K X : Type 0} (R : K → K → Ordering) (e : K × X) (es : List (K × X)) → T (is_sorted R (e ∷ es)) → T (is_sorted R es)
rest_sorted R e es s = right _ _ s

-- the key is another one than k
abbrev pub is_other : {K : Type 0} → (K → K → Ordering) → K → K → Bool
is_other R k q = not (eq_by_cmp R k q)

module _ {K X : Type 0} {R : K → K → Ordering} (total : IsTotalOrder R) (apart : IsAntisymmetric R) where
  -- no entry of a list after x has the key k, which is not after x
  past_less : (k x : K) (es : List (K × X)) → R k x ≡ Less → T (below_all R x es) → AllByRecursion (λ (e : K × X). eq_by_cmp R k e.0 ≡ false) es
  past_less k x es p h = all_weaker _ _ (λ e q. ap is_eq (total.trans k x e.0 p q)) es (above R x es h)

  past_tied : (k x : K) (es : List (K × X)) → R k x ≡ Equal → T (below_all R x es) → AllByRecursion (λ (e : K × X). eq_by_cmp R k e.0 ≡ false) es
  past_tied k x es p h = all_weaker _ _ (λ e q. ap is_eq (total.congr k x e.0 p ∙ q)) es (above R x es h)

  kept : (k : K) (es : List (K × X)) → AllByRecursion (λ (e : K × X). eq_by_cmp R k e.0 ≡ false) es → where_key R (is_other R k) es ≡ es
  kept k es h = filter_all _ es (all_weaker _ _ (λ e q. ap not q) es h)

  -- the entries without that of a key
  pub entries-remove : (m : FinMap R X) (k : K) → entries (remove m k) ≡ where_key R (is_other R k) (entries m)
  entries-remove m k =
      let es = where_key R (is_other R k) (entries m) in
      let sorted = is_sorted-where_key R (is_other R k) (entries m) (entries_sorted m) in
      let same : remove m k ≡ from_sorted es = same_map total apart _ _ (λ q.
      get-remove total m k q
      ∙ ap (λ b. cond b None (get m q)) ((eq_by_cmp_equiv total).symm q k)
      ∙ ap (λ found. cond (eq_by_cmp R k q) None found) (get-entries m q)
      ∙ sym (turned (eq_by_cmp R k q) _ _)
      ∙ sym (get-from_sorted R es q sorted ∙ find-where_key R (is_other R k) q (λ x t. ap (λ r. not (is_eq r)) (sym (alike_right total q x k t))) (entries m))) in
      ap entries same ∙ entries-from_sorted R es sorted

  module _ {B : Type 0} (rows : K → X → List B) (has : K → B → Bool) (tested : (k q : K) (x : X) → AllByRecursion (λ row. has k row ≡ eq_by_cmp R k q) (rows q x)) where
    -- the rows that entries give
    abbrev pub all_rows : List (K × X) → List B
    all_rows es = flat_map (λ (e : K × X). rows e.0 e.1) es

    rows_of_others : (k : K) (es : List (K × X)) → filter (λ row. not (has k row)) (all_rows es) ≡ all_rows (where_key R (is_other R k) es)
    rows_of_others k es =
        filter-flat_map (λ row. not (has k row)) (λ (e : K × X). is_other R k e.0) (λ e. rows e.0 e.1) (λ e. all_weaker _ _ (λ row is. ap not is) _ (tested k e.0 e.1)) es

    -- the rows of a key are removed
    pub rows-removed : (m : FinMap R X) (k : K) → all_rows (entries (remove m k)) ≡ filter (λ row. not (has k row)) (all_rows (entries m))
    rows-removed m k = ap all_rows (entries-remove m k) ∙ sym (rows_of_others k (entries m))

    put-permuted : (k : K) (v : X) (es : List (K × X)) → T (is_sorted R es) → IsPermutation (rows k v ++ all_rows (where_key R (is_other R k) es)) (all_rows (put R k v es))
    put-permuted k v [] s = IsPermutation-refl _
    put-permuted k v (e ∷ es) s =
        let others = where_key R (is_other R k) es in
        elim (R k e.0) as (λ r. R k e.0 ≡ r → IsPermutation (rows k v ++ all_rows (cond (not (is_eq r)) (e ∷ others) others)) (all_rows (by_order r ((k, v) ∷ e ∷ es) ((e.0, v) ∷ es) (e ∷ put R k v es)))) [
          | Less ↦ λ p. subst (λ l. IsPermutation (rows k v ++ all_rows (e ∷ others)) (rows k v ++ all_rows (e ∷ l))) (kept k es (past_less k e.0 es p (left _ _ s))) (IsPermutation-refl _)
          | Equal ↦ λ p.
              let same : rows k v ++ all_rows others ≡ rows e.0 v ++ all_rows es = ap₂ (λ (q : K) l. rows q v ++ all_rows l) (apart k e.0 p) (kept k es (past_tied k e.0 es p (left _ _ s))) in
              subst (IsPermutation (rows k v ++ all_rows others)) same (IsPermutation-refl _)
          | Greater ↦ λ p.
              let own = rows e.0 e.1 in
              let turn : IsPermutation (rows k v ++ (own ++ all_rows others)) (own ++ (rows k v ++ all_rows others)) =
              subst (λ l. IsPermutation l (own ++ (rows k v ++ all_rows others))) (append_assoc (rows k v) own (all_rows others))
              (subst (IsPermutation ((rows k v ++ own) ++ all_rows others)) (append_assoc own (rows k v) (all_rows others))
              (IsPermutation-append_left (all_rows others) _ _ (IsPermutation-append_comm (rows k v) own))) in
              IsPermutation-trans _ _ _ turn (IsPermutation-append_right own _ _ (put-permuted k v es (right _ _ s)))
        ] refl

    -- the rows of a key are written
    pub rows-written : (m : FinMap R X) (k : K) (v : X) → IsPermutation (rows k v ++ filter (λ row. not (has k row)) (all_rows (entries m))) (all_rows (entries (insert m k v)))
    rows-written m k v =
        subst (λ l. IsPermutation (rows k v ++ l) (all_rows (entries (insert m k v)))) (sym (rows_of_others k (entries m)))
        (subst (λ es. IsPermutation (rows k v ++ all_rows (where_key R (is_other R k) (entries m))) (all_rows es)) (sym (entries-insert total m k v))
        (put-permuted k v (entries m) (entries_sorted m)))

    one_key : (k : K) (es : List (K × X)) → T (is_sorted R es) → all_rows (filter (λ (e : K × X). eq_by_cmp R k e.0) es) ≡ rows_if (rows k) (find R k es)
    one_key k [] s = refl
    one_key k (e ∷ es) s =
        let more = filter (λ (e : K × X). eq_by_cmp R k e.0) es in
        elim (eq_by_cmp R k e.0) as (λ b. eq_by_cmp R k e.0 ≡ b → all_rows (cond b (e ∷ more) more) ≡ rows_if (rows k) (cond b (Some e.1) (find R k es))) [
          | true ↦ λ t.
              let tied = (Equal-is (R k e.0)).0 t in
              ap (λ l. rows e.0 e.1 ++ all_rows l) (filter_none _ es (past_tied k e.0 es tied (left _ _ s)))
              ∙ append-nil (rows e.0 e.1)
              ∙ ap (λ (q : K). rows q e.1) (sym (apart k e.0 tied))
          | false ↦ λ t. one_key k es (right _ _ s)
        ] refl

    -- the rows of a key are found
    pub rows-found : (m : FinMap R X) (k : K) → filter (has k) (all_rows (entries m)) ≡ rows_if (rows k) (get m k)
    rows-found m k =
        filter-flat_map (has k) (λ (e : K × X). eq_by_cmp R k e.0) (λ e. rows e.0 e.1) (λ e. tested k e.0 e.1) (entries m)
        ∙ one_key k (entries m) (entries_sorted m)
        ∙ ap (rows_if (rows k)) (sym (get-entries m k))
