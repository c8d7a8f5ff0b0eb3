-- The first edge by name that starts at a node and leads nearer.
use Rattle.std.proofs.Common.{◌≡◌, ◌⊎◌, inl, inr, ℕ, true, false, cond, Some, List, [], ◌∷◌, refl, sym, ap, subst, ◌∙◌, true≢false}
use Rattle.std.specs.declared.cmp.Ordering.TheVariants.{Less}
use Rattle.std.specs.Ordering.{is_eq, ordering_reverse}
use Rattle.std.specs.Option.{unwrap_or}
use Rattle.std.specs.List.{AllByRecursion}
use Rattle.std.specs.List.Sorted.{IsStrictlySortedBy}
use Rattle.std.specs.Map.{lookup, keys_of}
use Rattle.std.specs.BTreeMap.{BTreeMap, is_at}
use Rattle.std.proofs.lemmas.Bool.{and_parts}
use Rattle.std.proofs.lemmas.Map.Keys.{sorted_tail}
use Rattle.agv_header.specs.Name.{name_cmp}
use Rattle.agv_layout.specs.declared.edge.Edge.{Edge}
use Rattle.agv_layout.specs.declared.edge.EdgeEnds.{EdgeEnds}
use Rattle.agv_layout.specs.Layout.{Name, edge_of}
use Rattle.agv_layout.specs.Ways.{is_nearer, is_way, first_way}
use Rattle.agv_layout.proofs.Maps.{names_total, same_name, ties_with_itself}

-- an entry that is found among those after a name comes after it
after_name : (x id : Name) (ends : EdgeEnds) (es : List (Name × EdgeEnds)) → AllByRecursion (λ y. name_cmp x y ≡ Less) (keys_of es) → lookup (is_at (name_cmp id)) es ≡ Some ends → name_cmp x id ≡ Less
after_name x id ends [] below h = cc
after_name x id ends (e ∷ es) below h =
    elim (is_at (name_cmp id) e.0) as (λ b. is_at (name_cmp id) e.0 ≡ b → cond b (Some e.1) (lookup (is_at (name_cmp id)) es) ≡ Some ends → name_cmp x id ≡ Less) [
      | true ↦ λ here _. subst (λ n. name_cmp x n ≡ Less) (sym (same_name id e.0 here)) below.0
      | false ↦ λ _ there. after_name x id ends es below.1 there
    ] refl h

untied : (x id : Name) → name_cmp x id ≡ Less → is_at (name_cmp id) x ≡ false
untied x id less = ap is_eq (names_total.antisymm id x ∙ ap ordering_reverse less)

same_Ends : (a b : EdgeEnds) → Some a ≡ Some b → a ≡ b
same_Ends a b e = ap (λ o. unwrap_or o a) e

same_Edge : (a b : Edge) → Some a ≡ Some b → a ≡ b
same_Edge a b e = ap (λ o. unwrap_or o a) e

head_below : (e : Name × EdgeEnds) (es : List (Name × EdgeEnds)) → IsStrictlySortedBy name_cmp (keys_of (e ∷ es)) → AllByRecursion (λ y. name_cmp e.0 y ≡ Less) (keys_of es)
unfolding IsStrictlySortedBy
head_below e es h = h.0

module _ (distances : BTreeMap Name ℕ) (at : Name) where
  abbrev Found : List (Name × EdgeEnds) → Edge → Type 0
  Found es edge = (lookup (is_at (name_cmp edge.id)) es ≡ Some (record { start = at; finish = edge.finish })) × (is_nearer distances (record { start = at; finish = edge.finish }) ≡ true)

  starts_here : (ends : EdgeEnds) → is_way distances at ends ≡ true → ends ≡ record { start = at; finish = ends.finish }
  starts_here ends way = let from = same_name ends.start at (and_parts (is_at (name_cmp ends.start) at) (is_nearer distances ends) way).0 in λ i. record { start = from i; finish = ends.finish }

  found_here : (e : Name × EdgeEnds) (es : List (Name × EdgeEnds)) → is_way distances at e.1 ≡ true → Found (e ∷ es) (edge_of e.0 e.1)
  found_here e es way =
      let same = starts_here e.1 way in (
        ap (λ b. cond b (Some e.1) (lookup (is_at (name_cmp e.0)) es)) (ties_with_itself e.0) ∙ ap Some same,
        ap (is_nearer distances) (sym same) ∙ (and_parts (is_at (name_cmp e.1.start) at) (is_nearer distances e.1) way).1,
      )

  -- the edge that is found is one, starts at the node and leads nearer
  pub first_found : (es : List (Name × EdgeEnds)) → IsStrictlySortedBy name_cmp (keys_of es) → (edge : Edge) → first_way distances at es ≡ Some edge → Found es edge
  first_found [] sorted edge h = cc
  first_found (e ∷ es) sorted edge h =
      elim (is_way distances at e.1) as (λ b. is_way distances at e.1 ≡ b → cond b (Some (edge_of e.0 e.1)) (first_way distances at es) ≡ Some edge → Found (e ∷ es) edge) [
        | true ↦ λ way g. subst (Found (e ∷ es)) (same_Edge _ _ g) (found_here e es way)
        | false ↦ λ _ g.
            let rest = first_found es (sorted_tail name_cmp e.0 (keys_of es) sorted) edge g in
            let apart = untied e.0 edge.id (after_name e.0 edge.id _ es (head_below e es sorted) rest.0) in
            (ap (λ b. cond b (Some e.1) (lookup (is_at (name_cmp edge.id)) es)) apart ∙ rest.0, rest.1)
      ] refl h

  -- no edge before it does so
  pub first_least : (es : List (Name × EdgeEnds)) → IsStrictlySortedBy name_cmp (keys_of es) → (id : Name) (ends : EdgeEnds) → lookup (is_at (name_cmp id)) es ≡ Some ends → is_way distances at ends ≡ true → (edge : Edge) → first_way distances at es ≡ Some edge → (id ≡ edge.id) ⊎ (name_cmp edge.id id ≡ Less)
  first_least [] sorted id ends found way edge h = cc
  first_least (e ∷ es) sorted id ends found way edge h =
      elim (is_way distances at e.1) as (λ b. is_way distances at e.1 ≡ b → cond b (Some (edge_of e.0 e.1)) (first_way distances at es) ≡ Some edge → (id ≡ edge.id) ⊎ (name_cmp edge.id id ≡ Less)) [
        | true ↦ λ _ g.
            subst (λ (x : Edge). (id ≡ x.id) ⊎ (name_cmp x.id id ≡ Less)) (same_Edge _ _ g)
            (elim (is_at (name_cmp id) e.0) as (λ t. is_at (name_cmp id) e.0 ≡ t → cond t (Some e.1) (lookup (is_at (name_cmp id)) es) ≡ Some ends → (id ≡ e.0) ⊎ (name_cmp e.0 id ≡ Less)) [
              | true ↦ λ here _. inl (same_name id e.0 here)
              | false ↦ λ _ there. inr (after_name e.0 id ends es (head_below e es sorted) there)
            ] refl found)
        | false ↦ λ no g.
            elim (is_at (name_cmp id) e.0) as (λ t. cond t (Some e.1) (lookup (is_at (name_cmp id)) es) ≡ Some ends → (id ≡ edge.id) ⊎ (name_cmp edge.id id ≡ Less)) [
              | true ↦ λ here. absurd (true≢false (sym way ∙ ap (is_way distances at) (sym (same_Ends _ _ here)) ∙ no))
              | false ↦ λ there. first_least es (sorted_tail name_cmp e.0 (keys_of es) sorted) id ends there way edge g
            ] found
      ] refl h

  -- where an edge does so, one is found
  pub first_exists : (es : List (Name × EdgeEnds)) (id : Name) (ends : EdgeEnds) → lookup (is_at (name_cmp id)) es ≡ Some ends → is_way distances at ends ≡ true → (edge : Edge) × (first_way distances at es ≡ Some edge)
  first_exists [] id ends found way = cc
  first_exists (e ∷ es) id ends found way =
      elim (is_way distances at e.1) as (λ b. is_way distances at e.1 ≡ b → (edge : Edge) × (cond b (Some (edge_of e.0 e.1)) (first_way distances at es) ≡ Some edge)) [
        | true ↦ λ _. (edge_of e.0 e.1, refl)
        | false ↦ λ no.
            elim (is_at (name_cmp id) e.0) as (λ t. cond t (Some e.1) (lookup (is_at (name_cmp id)) es) ≡ Some ends → (edge : Edge) × (first_way distances at es ≡ Some edge)) [
              | true ↦ λ here. absurd (true≢false (sym way ∙ ap (is_way distances at) (sym (same_Ends _ _ here)) ∙ no))
              | false ↦ λ there. first_exists es id ends there way
            ] found
      ] refl
