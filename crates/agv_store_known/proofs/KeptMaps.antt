-- A map that is kept beside the tables, and what holds of each key and value that it has.
use Rattle.std.proofs.Common.{◌≡◌, true, false, cond, Some, Ordering, refl, sym, ap, subst, ◌∙◌}
use Rattle.std.specs.BTreeMap as tree
use Rattle.std.specs.Cmp.{Equal-is}
use Rattle.std.specs.FinMap.{IsAntisymmetric}
use Rattle.std.specs.Map.{lookup}
use Rattle.std.proofs.lemmas.Option.{same_Some}

module _ {K X : Type 0} (cmp : K → K → Ordering) (apart : IsAntisymmetric cmp) (Says : K → X → Type 0) where
  abbrev AreSaid : tree.BTreeMap K X → Type 0
  AreSaid m = (key : K) (x : X) → tree.get cmp m key ≡ Some x → Says key x

  -- what has the same entries keeps the same
  pub same_entries : (m n : tree.BTreeMap K X) → tree.IsUnchanged m n → AreSaid m → AreSaid n
  same_entries m n same said key x there = said key x (sym (ap (λ es. lookup (tree.is_at (cmp key)) es) same) ∙ there)

  -- one more of which it holds can be kept
  pub one_more_entry : (m n : tree.BTreeMap K X) (key : K) (x : X) → ((other : K) → tree.get cmp n other ≡ cond (tree.is_at (cmp key) other) (Some x) (tree.get cmp m other)) → Says key x → AreSaid m → AreSaid n
  one_more_entry m n key x puts own said other known there =
      elim (tree.is_at (cmp key) other) as (λ b. tree.is_at (cmp key) other ≡ b → cond b (Some x) (tree.get cmp m other) ≡ Some known → Says other known) [
        | true ↦ λ tied is. subst (λ k. Says k known) (apart key other ((Equal-is (cmp key other)).0 tied)) (subst (Says key) (same_Some x known is) own)
        | false ↦ λ untied is. said other known is
      ] refl (sym (puts other) ∙ there)
