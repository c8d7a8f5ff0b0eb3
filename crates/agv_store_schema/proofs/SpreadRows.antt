-- Whence the rows of a table come that each entry of a map gives.
use Rattle.std.proofs.Common.{◌≡◌, true, false, cond, T, List, [], ◌∷◌, ◌++◌, Some, None, Ordering, Less, is_eq, flat_map, refl, sym, ap, ◌∙◌}
use Rattle.std.specs.Cmp.{IsTotalOrder, tied_itself}
use Rattle.std.specs.FinMap.{FinMap, get, entries, find, is_sorted, get-entries, get-from_entries, entries_sorted}
use Rattle.std.specs.List.{AllByRecursion}
use Rattle.std.specs.Option.{option_or}
use Rattle.std.specs.Ordering.{eq_by_cmp, ordering_reverse}
use Rattle.sqlite_trees.proofs.ListLemmas.{all_weaker, all_both}
use Rattle.agv_header.specs.Spread.{spread}
use Rattle.agv_store_schema.proofs.MapEntries.{above, left, right}

find-append : {Q Y : Type 0} (S : Q → Q → Ordering) (q : Q) (xs ys : List (Q × Y)) → find S q (xs ++ ys) ≡ option_or (find S q xs) (find S q ys)
find-append S q [] ys = refl
find-append S q (e ∷ xs) ys =
    elim (eq_by_cmp S q e.0) as (λ b. cond b (Some e.1) (find S q (xs ++ ys)) ≡ option_or (cond b (Some e.1) (find S q xs)) (find S q ys)) [
      | true ↦ refl
      | false ↦ find-append S q xs ys
    ]

turned : {K : Type 0} {R : K → K → Ordering} (total : IsTotalOrder R) (x y : K) → R x y ≡ Less → eq_by_cmp R y x ≡ false
turned total x y h = ap is_eq (total.antisymm y x ∙ ap ordering_reverse h)

module _ {K X : Type 0} {R : K → K → Ordering} (total : IsTotalOrder R) where
  found_in : (es : List (K × X)) → T (is_sorted R es) → AllByRecursion (λ (e : K × X). find R e.0 es ≡ Some e.1) es
  found_in [] s = tt
  found_in (f ∷ es) s = (
    ap (λ r. cond (is_eq r) (Some f.1) (find R f.0 es)) (tied_itself total f.0),
    all_both _ _ _ (λ e less is. ap (λ t. cond t (Some f.1) (find R e.0 es)) (turned total f.0 e.0 less) ∙ is) es (above R f.0 es (left _ _ s)) (found_in es (right _ _ s)),
  )

  -- the map has the value of each entry at its key
  pub entries_found : (m : FinMap R X) → AllByRecursion (λ (e : K × X). get m e.0 ≡ Some e.1) (entries m)
  entries_found m = all_weaker _ _ (λ e is. get-entries m e.0 ∙ is) (entries m) (found_in (entries m) (entries_sorted m))

  module _ {Q Y : Type 0} (S : Q → Q → Ordering) (S_total : IsTotalOrder S) (rows : K → X → List (Q × Y)) (m : FinMap R X) where
    -- an entry gives the row
    abbrev From : Q → Y → Type 0
    From q y = (k : K) × (x : X) × (get m k ≡ Some x) × (find S q (rows k x) ≡ Some y)

    from_list : (q : Q) (y : Y) (es : List (K × X)) → AllByRecursion (λ (e : K × X). get m e.0 ≡ Some e.1) es → find S q (flat_map (λ (e : K × X). rows e.0 e.1) es) ≡ Some y → From q y
    from_list q y [] h f = absurd (cc f)
    from_list q y (e ∷ es) h f =
        elim (find S q (rows e.0 e.1)) as (λ o. find S q (rows e.0 e.1) ≡ o → option_or o (find S q (flat_map (λ (e : K × X). rows e.0 e.1) es)) ≡ Some y → From q y) [
          | Some z ↦ λ is g. (e.0, e.1, h.0, is ∙ g)
          | None ↦ λ is g. from_list q y es h.1 g
        ] refl (sym (find-append S q (rows e.0 e.1) (flat_map (λ (e : K × X). rows e.0 e.1) es)) ∙ f)

    -- each row comes from an entry
    pub spread_from : (q : Q) (y : Y) → get (spread S rows m) q ≡ Some y → (k : K) × (x : X) × (get m k ≡ Some x) × (find S q (rows k x) ≡ Some y)
    unfolding spread
    spread_from q y e = from_list q y (entries m) (entries_found m) (sym (get-from_entries S_total (flat_map (λ (e : K × X). rows e.0 e.1) (entries m)) q) ∙ e)
