-- A test of each entry of a map is a test of each value with its key.
use Rattle.std.proofs.Common.{◌≡◌, ◌||◌, Bool, true, false, cond, List, [], ◌∷◌, Some, Ordering, refl, sym, ap, subst, ◌∙◌}
use Rattle.std.proofs.lemmas.Bool.{and_parts, and_from, false≢true}
use Rattle.std.specs.Cmp.{IsTotalOrder}
use Rattle.std.specs.FinMap.{FinMap, IsAntisymmetric, entries, find, get, get-entries}
use Rattle.std.specs.FinSet as set
use Rattle.std.specs.List.{AllByRecursion, list_all, list_any}
use Rattle.std.specs.Ordering.{eq_by_cmp}
use Rattle.agv_world_core.proofs.lists.Entries.{entries_found, is_same, no_more, same_Some}

module _ {K X : Type 0} {R : K → K → Ordering} (total : IsTotalOrder R) (apart : IsAntisymmetric R) (test : K × X → Bool) where
  -- ---- all
  each-in : (k : K) (x : X) (es : List (K × X)) → list_all test es ≡ true → find R k es ≡ Some x → test (k, x) ≡ true
  each-in k x [] passed found = absurd (no_more x found)
  each-in k x (e ∷ es) passed found =
      let parts = and_parts (test e) (list_all test es) passed in
      elim (eq_by_cmp R k e.0) as (λ b. eq_by_cmp R k e.0 ≡ b → cond b (Some e.1) (find R k es) ≡ Some x → test (k, x) ≡ true) [
        | true ↦ λ tied is. subst (λ (q : K). test (q, x) ≡ true) (sym (is_same apart k e.0 tied)) (subst (λ (y : X). test (e.0, y) ≡ true) (same_Some e.1 x is) parts.0)
        | false ↦ λ tied is. each-in k x es parts.1 is
      ] refl found

  all-in : (m : FinMap R X) (es : List (K × X)) → AllByRecursion (λ (e : K × X). get m e.0 ≡ Some e.1) es → ((k : K) (x : X) → get m k ≡ Some x → test (k, x) ≡ true) → list_all test es ≡ true
  all-in m [] found each = refl
  all-in m (e ∷ es) found each = and_from (test e) (list_all test es) (each e.0 e.1 found.0) (all-in m es found.1 each)

  -- each value passes with its key
  pub each-entry : (m : FinMap R X) → list_all test (entries m) ≡ true → (k : K) (x : X) → get m k ≡ Some x → test (k, x) ≡ true
  each-entry m passed k x at = each-in k x (entries m) passed (sym (get-entries m k) ∙ at)

  -- and where each does, all do
  pub all-entries : (m : FinMap R X) → ((k : K) (x : X) → get m k ≡ Some x → test (k, x) ≡ true) → list_all test (entries m) ≡ true
  all-entries m each = all-in m (entries m) (entries_found total m) each

  -- ---- any
  some-in : (m : FinMap R X) (es : List (K × X)) → AllByRecursion (λ (e : K × X). get m e.0 ≡ Some e.1) es → list_any test es ≡ true → (k : K) × (x : X) × (get m k ≡ Some x) × (test (k, x) ≡ true)
  some-in m [] found any = absurd (false≢true any)
  some-in m (e ∷ es) found any =
      elim (test e) as (λ b. test e ≡ b → (b || list_any test es) ≡ true → (k : K) × (x : X) × (get m k ≡ Some x) × (test (k, x) ≡ true)) [
        | true ↦ λ is _. (e.0, e.1, found.0, is)
        | false ↦ λ is rest. some-in m es found.1 rest
      ] refl any

  any-in : (k : K) (x : X) → test (k, x) ≡ true → (es : List (K × X)) → find R k es ≡ Some x → list_any test es ≡ true
  any-in k x is [] found = absurd (no_more x found)
  any-in k x is (e ∷ es) found =
      elim (test e) as (λ b. test e ≡ b → (b || list_any test es) ≡ true) [
        | true ↦ λ own. refl
        | false ↦ λ own.
            elim (eq_by_cmp R k e.0) as (λ b. eq_by_cmp R k e.0 ≡ b → cond b (Some e.1) (find R k es) ≡ Some x → list_any test es ≡ true) [
              | true ↦ λ tied at. absurd (false≢true (sym own ∙ subst (λ (q : K). test (q, e.1) ≡ true) (is_same apart k e.0 tied) (subst (λ (y : X). test (k, y) ≡ true) (sym (same_Some e.1 x at)) is)))
              | false ↦ λ tied at. any-in k x is es at
            ] refl found
      ] refl

  -- some value passes with its key
  pub some-entry : (m : FinMap R X) → list_any test (entries m) ≡ true → (k : K) × (x : X) × (get m k ≡ Some x) × (test (k, x) ≡ true)
  some-entry m any = some-in m (entries m) (entries_found total m) any

  pub any-entry : (m : FinMap R X) (k : K) (x : X) → get m k ≡ Some x → test (k, x) ≡ true → list_any test (entries m) ≡ true
  any-entry m k x at is = any-in k x is (entries m) (sym (get-entries m k) ∙ at)

module _ {K X : Type 0} {R : K → K → Ordering} (apart : IsAntisymmetric R) where
  -- ---- facts
  has-in : (P : K × X → Type 0) (k : K) (x : X) (es : List (K × X)) → AllByRecursion P es → find R k es ≡ Some x → P (k, x)
  has-in P k x [] each found = absurd (no_more x found)
  has-in P k x (e ∷ es) each found =
      elim (eq_by_cmp R k e.0) as (λ b. eq_by_cmp R k e.0 ≡ b → cond b (Some e.1) (find R k es) ≡ Some x → P (k, x)) [
        | true ↦ λ tied is. subst (λ (q : K). P (q, x)) (sym (is_same apart k e.0 tied)) (subst (λ (y : X). P (e.0, y)) (same_Some e.1 x is) each.0)
        | false ↦ λ tied is. has-in P k x es each.1 is
      ] refl found

  -- what each entry has, each value has with its key
  pub entry-has : (P : K × X → Type 0) (m : FinMap R X) → AllByRecursion P (entries m) → (k : K) (x : X) → get m k ≡ Some x → P (k, x)
  entry-has P m each k x at = has-in P k x (entries m) each (sym (get-entries m k) ∙ at)

module _ {K : Type 0} {R : K → K → Ordering} (total : IsTotalOrder R) (apart : IsAntisymmetric R) where
  one-has : (P : K → Type 0) (q : K) (ks : List K) → AllByRecursion P ks → list_any (eq_by_cmp R q) ks ≡ true → P q
  one-has P q [] each any = absurd (false≢true any)
  one-has P q (k ∷ ks) each any =
      elim (eq_by_cmp R q k) as (λ b. eq_by_cmp R q k ≡ b → (b || list_any (eq_by_cmp R q) ks) ≡ true → P q) [
        | true ↦ λ tied _. subst P (sym (is_same apart q k tied)) each.0
        | false ↦ λ tied rest. one-has P q ks each.1 rest
      ] refl any

  -- what each key of a list has, each member of its set has
  pub member-has : (P : K → Type 0) (ks : List K) (s : set.FinSet R) → set.from_list ks ≡ s → AllByRecursion P ks → (q : K) → set.contains s q ≡ true → P q
  member-has P ks s is each q among =
      one-has P q ks each (sym (set.contains-from_list total ks q) ∙ ap (λ t. set.contains t q) is ∙ among)
