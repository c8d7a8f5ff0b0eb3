-- What one write does to a finite map: what it has at each key, how many entries it has, and how many of them pass a test.
use Rattle.std.proofs.Common.{◌≡◌, ◌≢◌, ◌⊎◌, ◌&&◌, ◌≤◌, ◌+◌, ℕ, Bool, true, false, cond, T, is_some, List, [], ◌∷◌, Option, Some, None, Ordering, Less, Equal, Greater, count_by, is_eq, is_lt, arith, inl, inr, refl, sym, ap, subst, ◌∙◌}
use Rattle.std.specs.Cmp.{IsTotalOrder, tied_itself}
use Rattle.std.specs.FinMap.{FinMap, IsAntisymmetric, get, insert, entries, get-insert, get-entries, len, len-insert, entries-insert, entries_sorted, same_map}
use Rattle.std.specs.FinMap.Entries.{by_order, put, find, below_all, is_sorted}
use Rattle.std.specs.List.{AllByRecursion}
use Rattle.std.specs.Ordering.{eq_by_cmp}
use Rattle.std.proofs.lemmas.Bool.{false≢true}
use Rattle.std.proofs.lemmas.List.Sums.{sum_by-cons}
use Rattle.agv_world_core.proofs.lists.Entries.{entries_found, is_same, same_Some}

-- ---- counting

-- what counts as one, and what does not
abbrev pub one_if : Bool → ℕ
one_if counts = cond counts 1 0

-- what there is at a key counts as one where it passes the test
abbrev pub weight : {X : Type 0} → (X → Bool) → Option X → ℕ
weight test None = 0
weight test (Some x) = one_if (test x)

-- how many entries pass a test of their values
abbrev pub tally : {K X : Type 0} {R : K → K → Ordering} → (X → Bool) → FinMap R X → ℕ
tally {K} {X} test m = count_by (λ (entry : K × X). test entry.1) (entries m)

-- ---- a write

-- the map n is m, but has v at k
pub record IsWritten {K X : Type 0} {R : K → K → Ordering} (m : FinMap R X) (k : K) (v : X) (n : FinMap R X) : Type 0 where
  pub here : get n k ≡ Some v
  pub there : (q : K) → q ≢ k → get n q ≡ get m q

left : (a b : Bool) → T (a && b) → T a
left true b p = tt
left false b p = p

right : (a b : Bool) → T (a && b) → T b
right true b p = p
right false b p = absurd p

less : (o : Ordering) → T (is_lt o) → o ≡ Less
less Less p = refl
less Equal p = absurd p
less Greater p = absurd p

-- ---- keys
module _ {K : Type 0} {R : K → K → Ordering} (total : IsTotalOrder R) (apart : IsAntisymmetric R) where
  -- two keys are one key or two
  pub same_or_other : (q k : K) → (q ≡ k) ⊎ (q ≢ k)
  same_or_other q k = elim (eq_by_cmp R q k) as (λ b. eq_by_cmp R q k ≡ b → (q ≡ k) ⊎ (q ≢ k)) [
    | true ↦ λ tied. inl (is_same apart q k tied)
    | false ↦ λ untied. inr (λ same. false≢true (sym untied ∙ ap (λ z. eq_by_cmp R z k) same ∙ ap is_eq (tied_itself total k)))
  ] refl

  pub untied : (q k : K) → q ≢ k → eq_by_cmp R q k ≡ false
  untied q k other = elim (eq_by_cmp R q k) as (λ b. eq_by_cmp R q k ≡ b → b ≡ false) [
    | true ↦ λ tied. absurd (other (is_same apart q k tied))
    | false ↦ λ no_tie. refl
  ] refl

-- ---- entries of a sorted list
module _ {K X : Type 0} {R : K → K → Ordering} (total : IsTotalOrder R) where
  lower : (x y : K) (es : List (K × X)) → R x y ≡ Less → T (below_all R y es) → T (below_all R x es)
  lower x y [] below h = tt
  lower x y (e ∷ es) below h =
      subst (λ r. T (is_lt r && below_all R x es)) (sym (total.trans x y e.0 below (less _ (left _ _ h)))) (lower x y es below (right _ _ h))

  find_lower : (q : K) (es : List (K × X)) → T (below_all R q es) → find R q es ≡ None
  find_lower q [] h = refl
  find_lower q (e ∷ es) h = ap (λ r. cond (is_eq r) (Some e.1) (find R q es)) (less _ (left _ _ h)) ∙ find_lower q es (right _ _ h)

  pub count-cons : (test : X → Bool) (e : K × X) (es : List (K × X)) → count_by (λ (entry : K × X). test entry.1) (e ∷ es) ≡ one_if (test e.1) + count_by (λ (entry : K × X). test entry.1) es
  count-cons test e es = sum_by-cons (λ (entry : K × X). one_if (test entry.1)) e es

  count-put : (test : X → Bool) (k : K) (v : X) (es : List (K × X)) → T (is_sorted R es)
      → count_by (λ (entry : K × X). test entry.1) (put R k v es) + weight test (find R k es) ≡ count_by (λ (entry : K × X). test entry.1) es + one_if (test v)
  count-put test k v [] h = omega (arith, count-cons test (k, v) [])
  count-put test k v (e ∷ es) h =
      let count : List (K × X) → ℕ = λ xs. count_by (λ (entry : K × X). test entry.1) xs in
      elim (R k e.0) as (λ r. R k e.0 ≡ r → count (by_order r ((k, v) ∷ e ∷ es) ((e.0, v) ∷ es) (e ∷ put R k v es)) + weight test (cond (is_eq r) (Some e.1) (find R k es)) ≡ count (e ∷ es) + one_if (test v)) [
        | Less ↦ λ below.
            subst (λ (x : Option X). count ((k, v) ∷ e ∷ es) + weight test x ≡ count (e ∷ es) + one_if (test v)) (sym (find_lower k es (lower k e.0 es below (left _ _ h))))
            (omega (arith, count-cons test (k, v) (e ∷ es)))
        | Equal ↦ λ tied. omega (arith, count-cons test (e.0, v) es, count-cons test e es)
        | Greater ↦ λ above.
            let rest : count (put R k v es) + weight test (find R k es) ≡ count es + one_if (test v) = count-put test k v es (right (below_all R e.0 es) (is_sorted R es) h) in
            omega (arith, count-cons test e (put R k v es), count-cons test e es)
      ] refl

  weight-le-list : (test : X → Bool) (q : K) (es : List (K × X)) → weight test (find R q es) ≤ count_by (λ (entry : K × X). test entry.1) es
  weight-le-list test q [] = omega arith
  weight-le-list test q (e ∷ es) =
      let rest : weight test (find R q es) ≤ count_by (λ (entry : K × X). test entry.1) es = weight-le-list test q es in
      let count = count_by (λ (entry : K × X). test entry.1) es in
      subst (λ n. weight test (find R q (e ∷ es)) ≤ n) (sym (count-cons test e es))
      (elim (eq_by_cmp R q e.0) as (λ b. weight test (cond b (Some e.1) (find R q es)) ≤ one_if (test e.1) + count) [
        | true ↦ omega arith
        | false ↦ omega (arith, rest)
      ])

  -- what is at a key is counted
  pub weight-le : (test : X → Bool) (m : FinMap R X) (q : K) → weight test (get m q) ≤ tally test m
  weight-le test m q = subst (λ x. weight test x ≤ tally test m) (sym (get-entries m q)) (weight-le-list test q (entries m))

  -- where none is counted, none passes
  pub none_passes : (test : X → Bool) (m : FinMap R X) → tally test m ≡ 0 → (k : K) (x : X) → get m k ≡ Some x → test x ≡ false
  none_passes test m none k x there =
      let most : weight test (Some x) ≤ tally test m = subst (λ found. weight test found ≤ tally test m) there (weight-le test m k) in
      elim (test x) as (λ b. one_if b ≤ tally test m → b ≡ false) [ true ↦ λ h. absurd (omega (arith, h, none)) | false ↦ λ h. refl ] most

  none_by_list : (test : X → Bool) (m : FinMap R X) → ((k : K) (x : X) → get m k ≡ Some x → test x ≡ false)
      → (es : List (K × X)) → AllByRecursion (λ (e : K × X). get m e.0 ≡ Some e.1) es → count_by (λ (entry : K × X). test entry.1) es ≡ 0
  none_by_list test m fails [] all = refl
  none_by_list test m fails (e ∷ es) all =
      no_sum _ _ _ (count-cons test e es) (ap one_if (fails e.0 e.1 all.0)) (none_by_list test m fails es all.1)
    where
      no_sum : (a b c : ℕ) → a ≡ b + c → b ≡ 0 → c ≡ 0 → a ≡ 0
      no_sum a b c sum one rest = omega arith

  -- where none passes, none is counted
  pub tally-none : (test : X → Bool) (m : FinMap R X) → ((k : K) (x : X) → get m k ≡ Some x → test x ≡ false) → tally test m ≡ 0
  tally-none test m fails = none_by_list test m fails (entries m) (entries_found total m)

  -- what a count gains and loses by a write
  tally-insert : (test : X → Bool) (m : FinMap R X) (k : K) (v : X) → tally test (insert m k v) + weight test (get m k) ≡ tally test m + one_if (test v)
  tally-insert test m k v =
      subst (λ es. count_by (λ (entry : K × X). test entry.1) es + weight test (get m k) ≡ tally test m + one_if (test v)) (sym (entries-insert total m k v))
      (subst (λ x. count_by (λ (entry : K × X). test entry.1) (put R k v (entries m)) + weight test x ≡ tally test m + one_if (test v)) (sym (get-entries m k))
      (count-put test k v (entries m) (entries_sorted m)))

-- ---- the map after a write
module _ {K X : Type 0} {R : K → K → Ordering} (total : IsTotalOrder R) (apart : IsAntisymmetric R) where
  pub is_written : (m : FinMap R X) (k : K) (v : X) → IsWritten m k v (insert m k v)
  is_written m k v = record {
    here = get-insert total m k v k ∙ ap (λ r. cond (is_eq r) (Some v) (get m k)) (tied_itself total k);
    there = λ q other. get-insert total m k v q ∙ ap (λ b. cond b (Some v) (get m q)) (untied total apart q k other);
  }

  -- what is there already
  pub is_written_already : (m : FinMap R X) (k : K) (v : X) → get m k ≡ Some v → IsWritten m k v m
  is_written_already m k v there = record { here = there; there = λ q other. refl }

  pub written_insert : (m : FinMap R X) (k : K) (v : X) (n : FinMap R X) → IsWritten m k v n → n ≡ insert m k v
  written_insert m k v n w = same_map total apart n (insert m k v) (λ q. elim (same_or_other total apart q k) [
    | inl same ↦ subst (λ z. get n z ≡ get (insert m k v) z) (sym same) (w.here ∙ sym (is_written m k v).here)
    | inr other ↦ w.there q other ∙ sym ((is_written m k v).there q other)
  ])

  pub tally-written : (test : X → Bool) (m : FinMap R X) (k : K) (v : X) (n : FinMap R X) → IsWritten m k v n → tally test n + weight test (get m k) ≡ tally test m + one_if (test v)
  tally-written test m k v n w =
      subst (λ z. tally test z + weight test (get m k) ≡ tally test m + one_if (test v)) (sym (written_insert m k v n w)) (tally-insert total test m k v)

  -- a value in place of another
  pub len-written : (m : FinMap R X) (k : K) (v old : X) (n : FinMap R X) → IsWritten m k v n → get m k ≡ Some old → len n ≡ len m
  len-written m k v old n w there =
      ap len (written_insert m k v n w) ∙ len-insert total m k v ∙ ap (λ (found : Option X). cond (is_some found) (len m) (len m + 1)) there

  -- at most one entry more
  pub len-written-le : (m : FinMap R X) (k : K) (v : X) (n : FinMap R X) → IsWritten m k v n → len n ≤ len m + 1
  len-written-le m k v n w =
      subst (λ z. z ≤ len m + 1) (sym (ap len (written_insert m k v n w) ∙ len-insert total m k v))
      (elim (is_some (get m k)) as (λ b. cond b (len m) (len m + 1) ≤ len m + 1) [ true ↦ omega arith | false ↦ omega arith ])

  -- an entry is the one that was written, or an old one at another key
  pub written_cases : (m : FinMap R X) (k : K) (v : X) (n : FinMap R X) → IsWritten m k v n → (q : K) (z : X) → get n q ≡ Some z → ((q ≡ k) × (z ≡ v)) ⊎ ((q ≢ k) × (get m q ≡ Some z))
  written_cases m k v n w q z there = elim (same_or_other total apart q k) [
    | inl same ↦ inl (same, same_Some _ _ (sym there ∙ ap (get n) same ∙ w.here))
    | inr other ↦ inr (other, sym (w.there q other) ∙ there)
  ]

  -- what was there is there
  pub written_has : (m : FinMap R X) (k : K) (v : X) (n : FinMap R X) → IsWritten m k v n → (q : K) → ((x : X) × (get m q ≡ Some x)) → (x : X) × (get n q ≡ Some x)
  written_has m k v n w q has = elim (same_or_other total apart q k) [
    | inl same ↦ (v, ap (get n) same ∙ w.here)
    | inr other ↦ (has.0, w.there q other ∙ has.1)
  ]
