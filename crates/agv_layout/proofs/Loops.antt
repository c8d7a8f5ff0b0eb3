-- Where a walk leads, one leads that takes no edge twice, and so has at most as many edges as there are.
use Rattle.std.proofs.Common.{◌≡◌, ◌≤◌, true, false, ◌||◌, IsSome, List, [], ◌∷◌, length, refl, sym, ap, subst, ◌∙◌, true≢false}
use Rattle.std.specs.BTreeMap.{is_at}
use Rattle.std.specs.FinMap as map
use Rattle.std.specs.FinMap.{get-entries, len-entries}
use Rattle.std.specs.List.{list_any, IsDistinct}
use Rattle.std.specs.Ordering.{eq_by_cmp}
use Rattle.std.proofs.lemmas.Map.Keys.{IsDistinct-cons, IsDistinct-tail}
use Rattle.std.proofs.lemmas.Map.Steps.{length-le_from_keys}
use Rattle.std.proofs.lemmas.Option.{same_Some}
use Rattle.agv_header.specs.Name.{name_cmp}
use Rattle.agv_layout.specs.declared.edge.EdgeEnds.{EdgeEnds}
use Rattle.agv_layout.specs.Layout.{Layout, Name, IsEdge}
use Rattle.agv_layout.specs.Walk.{IsWalk}
use Rattle.agv_layout.proofs.Maps.{all_fail, names_equiv, same_name, find-lookup}

-- no two names are the same
abbrev AreApart : List Name → Type 0
AreApart ids = IsDistinct (eq_by_cmp name_cmp) ids

none_apart : AreApart []
unfolding IsDistinct
none_apart = tt

module _ (layout : Layout) (to : Name) where
  -- a walk that takes no edge twice
  record Straight (from : Name) : Type 0 where
    ids : List Name
    walk : IsWalk layout from ids to
    apart : AreApart ids

  same_start : (id : Name) (one other : EdgeEnds) → IsEdge layout id one → IsEdge layout id other → one.start ≡ other.start
  same_start id one other is was = ap (λ (ends : EdgeEnds). ends.start) (same_Some _ _ (sym is ∙ was))

  -- from one of its edges on, it is a walk from where that edge starts
  from_edge_on : (id : Name) (ends : EdgeEnds) → IsEdge layout id ends → (at : Name) (ids : List Name) → IsWalk layout at ids to → AreApart ids → list_any (is_at (name_cmp id)) ids ≡ true → Straight ends.start
  from_edge_on id ends edge at [] walk apart among = absurd (true≢false (sym among))
  from_edge_on id ends edge at (x ∷ xs) walk apart among =
      elim (is_at (name_cmp id) x) as (λ b. is_at (name_cmp id) x ≡ b → (b || list_any (is_at (name_cmp id)) xs) ≡ true → Straight ends.start) [
        | true ↦ λ here _.
            let start : ends.start ≡ at = same_start x ends (record { start = at; finish = walk.0 }) (subst (λ (q : Name). IsEdge layout q ends) (same_name id x here) edge) walk.1 in
            record { ids = x ∷ xs; walk = subst (λ (v : Name). IsWalk layout v (x ∷ xs) to) (sym start) walk; apart = apart }
        | false ↦ λ _ there. from_edge_on id ends edge walk.0 xs walk.2 (IsDistinct-tail (eq_by_cmp name_cmp) x xs apart) there
      ] refl among

  -- where the rest of a walk comes back to its first edge, the way there and back is left out
  straight : (from : Name) (ids : List Name) → IsWalk layout from ids to → Straight from
  straight from [] walk = record { ids = []; walk = walk; apart = none_apart }
  straight from (id ∷ ids) walk =
      let rest = straight walk.0 ids walk.2 in
      elim (list_any (is_at (name_cmp id)) rest.ids) as (λ b. list_any (is_at (name_cmp id)) rest.ids ≡ b → Straight from) [
        | true ↦ λ again. from_edge_on id (record { start = from; finish = walk.0 }) walk.1 walk.0 rest.ids rest.walk rest.apart again
        | false ↦ λ new. record {
          ids = id ∷ rest.ids;
          walk = (walk.0, walk.1, rest.walk);
          apart = IsDistinct-cons (eq_by_cmp name_cmp) id rest.ids (all_fail (is_at (name_cmp id)) rest.ids new) rest.apart;
        }
      ] refl

  is_edge : (from : Name) (ids : List Name) → IsWalk layout from ids to → (q : Name) → list_any (is_at (name_cmp q)) ids ≡ true → (ends : EdgeEnds) × IsEdge layout q ends
  is_edge from [] walk q among = absurd (true≢false (sym among))
  is_edge from (id ∷ ids) walk q among =
      elim (is_at (name_cmp q) id) as (λ b. is_at (name_cmp q) id ≡ b → (b || list_any (is_at (name_cmp q)) ids) ≡ true → (ends : EdgeEnds) × IsEdge layout q ends) [
        | true ↦ λ here _. (record { start = from; finish = walk.0 }, subst (λ (x : Name). IsEdge layout x (record { start = from; finish = walk.0 })) (sym (same_name q id here)) walk.1)
        | false ↦ λ _ there. is_edge walk.0 ids walk.2 q there
      ] refl among

  few : (from : Name) (ids : List Name) → IsWalk layout from ids to → AreApart ids → length ids ≤ map.len layout.edges
  few from ids walk apart =
      subst (λ n. length ids ≤ n) (sym (len-entries layout.edges))
      (length-le_from_keys names_equiv ids (map.entries layout.edges) apart (λ q among.
      let edge = is_edge from ids walk q among in
      subst IsSome (sym edge.1 ∙ get-entries layout.edges q ∙ find-lookup name_cmp q (map.entries layout.edges)) refl))

  -- a walk of at most as many edges as there are
  pub no_more_than_edges : (from : Name) (ids : List Name) → IsWalk layout from ids to → (others : List Name) × IsWalk layout from others to × (length others ≤ map.len layout.edges)
  no_more_than_edges from ids walk = let one = straight from ids walk in (one.ids, one.walk, few from one.ids one.walk one.apart)
