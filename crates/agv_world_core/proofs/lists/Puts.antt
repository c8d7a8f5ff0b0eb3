-- Which entries a map has after one was written.
use Rattle.std.proofs.Common.{◌≡◌, ◌≢◌, ◌⊎◌, inl, inr, true, false, cond, Some, Ordering, is_eq, refl, sym, ap, ◌∙◌}
use Rattle.std.specs.Cmp.{IsTotalOrder, tied_itself}
use Rattle.std.specs.FinMap.{FinMap, IsAntisymmetric, get, insert, get-insert}
use Rattle.std.specs.Ordering.{eq_by_cmp}
use Rattle.std.proofs.lemmas.Bool.{false≢true}
use Rattle.agv_world_core.proofs.lists.Entries.{same_Some, is_same}

module _ {K : Type 0} {R : K → K → Ordering} (total : IsTotalOrder R) (apart : IsAntisymmetric R) where
  tied : (q k : K) → q ≡ k → eq_by_cmp R q k ≡ true
  tied q k same = ap (eq_by_cmp R q) (sym same) ∙ ap is_eq (tied_itself total q)

  pub not_tied : (q k : K) → q ≢ k → eq_by_cmp R q k ≡ false
  not_tied q k differ = elim (eq_by_cmp R q k) as (λ b. eq_by_cmp R q k ≡ b → b ≡ false) [
    | true ↦ λ s. absurd (differ (is_same apart q k s))
    | false ↦ λ s. refl
  ] refl

module _ {K X : Type 0} {R : K → K → Ordering} (total : IsTotalOrder R) (apart : IsAntisymmetric R) where
  pub here : (m : FinMap R X) (k : K) (v : X) → get (insert m k v) k ≡ Some v
  here m k v = get-insert total m k v k ∙ ap (λ b. cond b (Some v) (get m k)) (tied total apart k k refl)

  pub there : (m : FinMap R X) (k : K) (v : X) (q : K) → q ≢ k → get (insert m k v) q ≡ get m q
  there m k v q differ = get-insert total m k v q ∙ ap (λ b. cond b (Some v) (get m q)) (not_tied total apart q k differ)

  -- an entry is the one that was written, or an old one at another key
  pub put_cases : (m : FinMap R X) (k : K) (v : X) (q : K) (z : X) → get (insert m k v) q ≡ Some z → ((q ≡ k) × (z ≡ v)) ⊎ ((q ≢ k) × (get m q ≡ Some z))
  put_cases m k v q z e = elim (eq_by_cmp R q k) as (λ b. eq_by_cmp R q k ≡ b → cond b (Some v) (get m q) ≡ Some z → ((q ≡ k) × (z ≡ v)) ⊎ ((q ≢ k) × (get m q ≡ Some z))) [
    | true ↦ λ s f. inl (is_same apart q k s, sym (same_Some v z f))
    | false ↦ λ s f. inr (λ same. false≢true (sym s ∙ tied total apart q k same), f)
  ] refl (sym (get-insert total m k v q) ∙ e)
