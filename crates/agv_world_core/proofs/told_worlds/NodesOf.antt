-- The nodes of a layout, each once, in the order of their names.
use Rattle.std.proofs.Common.{◌≡◌, ℕ, ◌||◌, true, false, cond, List, [], ◌∷◌, map, Some, None, refl, sym, ap, subst, ◌∙◌}
use Rattle.std.specs.FinMap as finite
use Rattle.std.specs.FinMap.{find}
use Rattle.std.specs.FinSet as set
use Rattle.std.specs.List.{list_any}
use Rattle.std.specs.List.Sorted.{IsStrictlySortedBy}
use Rattle.std.specs.Map.{keys_of}
use Rattle.std.specs.Ordering.{eq_by_cmp}
use Rattle.agv_header.specs.Name.{name_cmp}
use Rattle.agv_layout.specs.Layout.{Layout}
use Rattle.agv_layout.specs.LayoutOf.{nodes_of}
use Rattle.agv_world_core.proofs.lists.InOrder.{entries-shown}
use Rattle.agv_world_core.proofs.lists.Orders.{names_total, names_apart}

abbrev marked : List (List ℕ) → List (List ℕ × Unit {0})
marked ids = map (λ id. (id, tt)) ids

keys_of-marked : (ids : List (List ℕ)) → keys_of (marked ids) ≡ ids
keys_of-marked [] = refl
keys_of-marked (id ∷ ids) = ap (λ l. id ∷ l) (keys_of-marked ids)

find-marked : (q : List ℕ) (ids : List (List ℕ)) → find name_cmp q (marked ids) ≡ cond (list_any (eq_by_cmp name_cmp q) ids) (Some tt) None
find-marked q [] = refl
find-marked q (id ∷ ids) =
    elim (eq_by_cmp name_cmp q id) as (λ b. cond b (Some tt) (find name_cmp q (marked ids)) ≡ cond (b || list_any (eq_by_cmp name_cmp q) ids) (Some tt) None) [
      | true ↦ refl
      | false ↦ find-marked q ids
    ]

-- names in order that make the set of the nodes are these
pub nodes-shown : (layout : Layout) (ids : List (List ℕ)) → IsStrictlySortedBy name_cmp ids → set.from_list ids ≡ layout.nodes → ids ≡ nodes_of layout
nodes-shown layout ids ordered all =
    let among : (q : List ℕ) → list_any (eq_by_cmp name_cmp q) ids ≡ list_any (eq_by_cmp name_cmp q) (set.items layout.nodes) =
    λ q. sym (set.contains-from_list names_total ids q) ∙ ap (λ (nodes : set.FinSet name_cmp). set.contains nodes q) all ∙ set.contains-items layout.nodes q in
    let same : finite.from_entries {R = name_cmp} (marked ids) ≡ finite.from_entries (marked (set.items layout.nodes)) =
    finite.same_map names_total names_apart _ _ (λ q.
    finite.get-from_entries names_total (marked ids) q
    ∙ find-marked q ids
    ∙ ap (λ b. cond b (Some tt) None) (among q)
    ∙ sym (find-marked q (set.items layout.nodes))
    ∙ sym (finite.get-from_entries names_total (marked (set.items layout.nodes)) q)) in
    sym (keys_of-marked ids)
    ∙ ap keys_of (sym (entries-shown names_total names_apart (marked ids) (subst (IsStrictlySortedBy name_cmp) (sym (keys_of-marked ids)) ordered)))
    ∙ ap finite.keys same
