-- The rows that the entries of a map give, where the row of a key is found by its first columns.
use Rattle.std.proofs.Common.{◌≡◌, ℕ, zero, suc, not, Bool, true, false, cond, List, [], ◌∷◌, ◌++◌, Option, Some, None, Ordering, IsPermutation, filter, flat_map, map, refl, sym, ap, ap₂, subst, ◌∙◌}
use Rattle.std.proofs.lemmas.List.{append-nil, map-append}
use Rattle.std.proofs.lemmas.List.Elements.{filter-append}
use Rattle.std.proofs.lemmas.List.Sorted.{IsPermutation-append_right, IsPermutation-map, IsPermutation-sym, IsPermutation-trans, length_permutation}
use Rattle.std.specs.Cmp.{IsTotalOrder}
use Rattle.std.specs.FinMap.{FinMap, IsAntisymmetric, get, insert, remove, entries, same_map}
use Rattle.std.specs.List.{AllByRecursion, AllZip}
use Rattle.std.specs.Ordering.{eq_by_cmp}
use Rattle.sqlite_trees.proofs.ListLemmas.{all_of, filter-map, filter_same, all_weaker, filter_all, filter_none, flat_map-map, flat_map-one, IsPermutation-filter, IsPermutation-flat_map}
use Rattle.sqlite_value.specs.Order.{Row}
use Rattle.agv_store_schema.specs.DeskRows.{on_table, table_at}
use Rattle.sqlite.proofs.Callers.{one_permutation}
use Rattle.agv_store_rows.specs.Rows.{ShowEntries, rows_in}
use Rattle.agv_store_schema.proofs.MapEntries.{at_key, entries-remove, entries-insert-permuted, entries-at_key}

-- where all that an element gives passes as the element does, what passes is what the elements that pass give
pub filtered : {A B : Type 0} (p : B → Bool) (q : A → Bool) (f : A → List B) → ((a : A) → AllByRecursion (λ b. p b ≡ q a) (f a)) → (as_ : List A)
    → filter p (flat_map f as_) ≡ flat_map f (filter q as_)
filtered p q f alike [] = refl
filtered {A} p q f alike (a ∷ more) =
    filter-append p (f a) (flat_map f more)
    ∙ elim (q a) as (λ b. q a ≡ b → filter p (f a) ++ filter p (flat_map f more) ≡ flat_map f (cond b (a ∷ filter q more) (filter q more))) [
      | true ↦ λ is. ap₂ ◌++◌ (filter_all p (f a) (all_weaker _ _ (λ x e. e ∙ is) (f a) (alike a))) (filtered p q f alike more)
      | false ↦ λ is. ap₂ ◌++◌ (filter_none p (f a) (all_weaker _ _ (λ x e. e ∙ is) (f a) (alike a))) (filtered p q f alike more)
    ] refl

-- the rows that pass are those of the entries that do
pub rows-shown : {K X : Type 0} {R : K → K → Ordering} (columns : K → X → Row) (m : FinMap R X) (rows : List Row) → IsPermutation rows (rows_in columns m) → ShowEntries rows columns m
rows-shown {K} {X} columns m rows h passes is alike =
    subst (IsPermutation (filter passes rows))
    (filter-map passes (λ (e : K × X). columns e.0 e.1) (entries m)
    ∙ ap (map (λ (e : K × X). columns e.0 e.1)) (filter_same (λ (e : K × X). passes (columns e.0 e.1)) is (entries m) (all_of _ (λ e. alike e.0 e.1) (entries m))))
    (IsPermutation-filter passes _ _ h)

-- the rows that fail a test go, and the entries that fail it
pub rows-kept : {K X : Type 0} {R : K → K → Ordering} (columns : K → X → Row) (m n : FinMap R X) (passes : Row → Bool) (is : K × X → Bool) → ((k : K) (x : X) → passes (columns k x) ≡ is (k, x))
    → entries n ≡ filter (λ e. not (is e)) (entries m) → (rows : List Row) → IsPermutation rows (rows_in columns m) → IsPermutation (filter (λ row. not (passes row)) rows) (rows_in columns n)
rows-kept {K} {X} columns m n passes is alike same rows h =
    subst (λ es. IsPermutation (filter (λ row. not (passes row)) rows) (map (λ (e : K × X). columns e.0 e.1) es)) (sym same)
    (rows-shown columns m rows h (λ row. not (passes row)) (λ e. not (is e)) (λ k x. ap not (alike k x)))

-- and more rows come, and more entries
pub rows-kept-more : {K X : Type 0} {R : K → K → Ordering} (columns : K → X → Row) (m n : FinMap R X) (passes : Row → Bool) (is : K × X → Bool) → ((k : K) (x : X) → passes (columns k x) ≡ is (k, x))
    → (new : List (K × X)) → IsPermutation (new ++ filter (λ e. not (is e)) (entries m)) (entries n) → (rows : List Row) → IsPermutation rows (rows_in columns m)
    → IsPermutation (map (λ (e : K × X). columns e.0 e.1) new ++ filter (λ row. not (passes row)) rows) (rows_in columns n)
rows-kept-more {K} {X} columns m n passes is alike new moved rows h =
    let cells : K × X → Row = λ (e : K × X). columns e.0 e.1 in
    let kept = rows-shown columns m rows h (λ row. not (passes row)) (λ e. not (is e)) (λ k x. ap not (alike k x)) in
    IsPermutation-trans _ _ _ (IsPermutation-append_right (map cells new) _ _ kept)
    (subst (λ l. IsPermutation l (rows_in columns n)) (map-append cells new _) (IsPermutation-map cells _ _ moved))

-- the rows that the entries of a map give
abbrev pub entry_rows : {K X : Type 0} {R : K → K → Ordering} → (K → X → List Row) → FinMap R X → List Row
entry_rows {K} {X} rows_of m = flat_map (λ (e : K × X). rows_of e.0 e.1) (entries m)

-- the rows of what is found at a key
abbrev pub rows_at : {K X : Type 0} → (K → X → List Row) → K → Option X → List Row
rows_at rows_of k None = []
rows_at rows_of k (Some x) = rows_of k x

-- the test for a key passes the rows of that key alone
abbrev pub AreTested : {K X : Type 0} → (K → K → Ordering) → (K → X → List Row) → (K → Row → Bool) → Type 0
AreTested {K} {X} R rows_of has = (k q : K) (x : X) → AllByRecursion (λ row. has k row ≡ eq_by_cmp R k q) (rows_of q x)

at_key-rows : {K X : Type 0} (rows_of : K → X → List Row) (k : K) (o : Option X) → flat_map (λ (e : K × X). rows_of e.0 e.1) (at_key k o) ≡ rows_at rows_of k o
at_key-rows rows_of k None = refl
at_key-rows rows_of k (Some x) = append-nil (rows_of k x)

module _ {K X : Type 0} {R : K → K → Ordering} (total : IsTotalOrder R) (apart : IsAntisymmetric R) (rows_of : K → X → List Row) (has : K → Row → Bool) (tested : AreTested R rows_of has) where
  -- the row of a key is removed
  pub rows-removed : (m : FinMap R X) (rows : List Row) (k : K) → IsPermutation rows (entry_rows rows_of m) → IsPermutation (filter (λ row. not (has k row)) rows) (entry_rows rows_of (remove m k))
  rows-removed m rows k h =
      subst (IsPermutation (filter (λ row. not (has k row)) rows))
      (filtered (λ row. not (has k row)) (λ (e : K × X). not (eq_by_cmp R k e.0)) (λ e. rows_of e.0 e.1) (λ e. all_weaker _ _ (λ row is. ap not is) _ (tested k e.0 e.1)) (entries m)
      ∙ ap (flat_map (λ (e : K × X). rows_of e.0 e.1)) (sym (entries-remove total apart m k)))
      (IsPermutation-filter _ _ _ h)

  -- the row of a key is written
  pub rows-written : (m : FinMap R X) (rows : List Row) (k : K) (x : X) → IsPermutation rows (entry_rows rows_of m)
      → IsPermutation (rows_of k x ++ filter (λ row. not (has k row)) rows) (entry_rows rows_of (insert m k x))
  rows-written m rows k x h =
      IsPermutation-trans _ _ _ (IsPermutation-append_right (rows_of k x) _ _ (rows-removed m rows k h))
      (IsPermutation-flat_map (λ (e : K × X). rows_of e.0 e.1) _ _ (entries-insert-permuted total apart m k x))

  -- the row of a key is found
  pub rows-found : (m : FinMap R X) (rows : List Row) (k : K) → IsPermutation rows (entry_rows rows_of m) → IsPermutation (filter (has k) rows) (rows_at rows_of k (get m k))
  rows-found m rows k h =
      subst (IsPermutation (filter (has k) rows))
      (filtered (has k) (λ (e : K × X). eq_by_cmp R k e.0) (λ e. rows_of e.0 e.1) (λ e. tested k e.0 e.1) (entries m)
      ∙ ap (flat_map (λ (e : K × X). rows_of e.0 e.1)) (entries-at_key total apart m k) ∙ at_key-rows rows_of k (get m k))
      (IsPermutation-filter _ _ _ h)

  -- the rows tell one map, where each entry has a row and two entries of one key with the same rows are one
  pub one_map : (m n : FinMap R X) (rows : List Row) → IsPermutation rows (entry_rows rows_of m) → IsPermutation rows (entry_rows rows_of n)
      → ((k : K) (x : X) → get m k ≡ Some x → ¬ (IsPermutation [] (rows_of k x)))
      → ((k : K) (x : X) → get n k ≡ Some x → ¬ (IsPermutation [] (rows_of k x)))
      → ((k : K) (x y : X) → get m k ≡ Some x → get n k ≡ Some y → IsPermutation (rows_of k x) (rows_of k y) → x ≡ y)
      → m ≡ n
  one_map m n rows h g some_m some_n same = same_map total apart m n (λ k. at k (get m k) (get n k) refl refl (IsPermutation-trans _ _ _ (IsPermutation-sym _ _ (rows-found m rows k h)) (rows-found n rows k g)))
    where
      at : (k : K) (o p : Option X) → get m k ≡ o → get n k ≡ p → IsPermutation (rows_at rows_of k o) (rows_at rows_of k p) → o ≡ p
      at k None None a b s = refl
      at k None (Some y) a b s = absurd (some_n k y b s)
      at k (Some x) None a b s = absurd (some_m k x a (IsPermutation-sym _ _ s))
      at k (Some x) (Some y) a b s = ap Some (same k x y a b s)

-- ---- one row for each entry

abbrev pub one_row : {K X : Type 0} → (K → X → Row) → K → X → List Row
one_row columns k x = columns k x ∷ []

pub one_each : {A B : Type 0} (f : A → B) (xs : List A) → flat_map (λ x. f x ∷ []) xs ≡ map f xs
one_each f xs = sym (flat_map-map (λ x. x ∷ []) f xs) ∙ flat_map-one (map f xs)

pub no_row : (row : Row) → ¬ (IsPermutation [] (row ∷ []))
no_row row h = absurd (cc (length_permutation _ _ h))

pub same_row : (a b : Row) → IsPermutation (a ∷ []) (b ∷ []) → a ≡ b
same_row a b h = let e = one_permutation a (b ∷ []) h in cc

module _ {K X : Type 0} {R : K → K → Ordering} (total : IsTotalOrder R) (apart : IsAntisymmetric R) (columns : K → X → Row) (has : K → Row → Bool)
    (tested : (k q : K) (x : X) → has k (columns q x) ≡ eq_by_cmp R k q) where
  pub all_tested : AreTested R (one_row columns) has
  all_tested k q x = (tested k q x, tt)

  pub row-removed : (m : FinMap R X) (rows : List Row) (k : K) → IsPermutation rows (rows_in columns m) → IsPermutation (filter (λ row. not (has k row)) rows) (rows_in columns (remove m k))
  row-removed m rows k h =
      subst (IsPermutation (filter (λ row. not (has k row)) rows)) (one_each _ _)
      (rows-removed total apart (one_row columns) has all_tested m rows k (subst (IsPermutation rows) (sym (one_each _ _)) h))

  pub row-written : (m : FinMap R X) (rows : List Row) (k : K) (x : X) → IsPermutation rows (rows_in columns m) → IsPermutation (columns k x ∷ filter (λ row. not (has k row)) rows) (rows_in columns (insert m k x))
  row-written m rows k x h =
      subst (IsPermutation (columns k x ∷ filter (λ row. not (has k row)) rows)) (one_each _ _)
      (rows-written total apart (one_row columns) has all_tested m rows k x (subst (IsPermutation rows) (sym (one_each _ _)) h))

  pub row-found : (m : FinMap R X) (rows : List Row) (k : K) → IsPermutation rows (rows_in columns m) → IsPermutation (filter (has k) rows) (rows_at (one_row columns) k (get m k))
  row-found m rows k h = rows-found total apart (one_row columns) has all_tested m rows k (subst (IsPermutation rows) (sym (one_each _ _)) h)

  -- the rows tell one map, where the columns of a key tell its value
  pub one_table : (m n : FinMap R X) (rows : List Row) → IsPermutation rows (rows_in columns m) → IsPermutation rows (rows_in columns n)
      → ((k : K) (x y : X) → get m k ≡ Some x → get n k ≡ Some y → columns k x ≡ columns k y → x ≡ y) → m ≡ n
  one_table m n rows h g same =
      one_map total apart (one_row columns) has all_tested m n rows (subst (IsPermutation rows) (sym (one_each _ _)) h) (subst (IsPermutation rows) (sym (one_each _ _)) g)
      (λ k x at. no_row (columns k x)) (λ k x at. no_row (columns k x)) (λ k x y at there s. same k x y at there (same_row _ _ s))

-- ---- lists of tables

-- a table is changed, where the others stay
pub on_table-alike : (at : ℕ) (f : List Row → List Row) (new : List Row) (lists others : List (List Row)) → AllZip IsPermutation lists others
    → (IsPermutation (table_at at lists) (table_at at others) → IsPermutation (f (table_at at lists)) new)
    → AllZip IsPermutation (on_table at f lists) (on_table at (λ _. new) others)
on_table-alike at f new [] [] h each = tt
on_table-alike at f new [] (ys ∷ others) h each = absurd h
on_table-alike at f new (xs ∷ lists) [] h each = absurd h
on_table-alike zero f new (xs ∷ lists) (ys ∷ others) h each = (each h.0, h.1)
on_table-alike (suc at) f new (xs ∷ lists) (ys ∷ others) h each = (h.0, on_table-alike at f new lists others h.1 each)
