-- There is one way between two nodes, with as many edges as hops, and it joins nodes.
use Rattle.std.proofs.Common.{◌≡◌, ⊎_elim, Option, Some, None, List, length, refl, sym, ap, ◌∙◌, arith}
use Rattle.std.specs.declared.cmp.Ordering.TheVariants.{Less, Greater}
use Rattle.std.specs.Ordering.{ordering_reverse}
use Rattle.std.specs.Option.{option_map}
use Rattle.std.specs.Cmp.{IsTotalOrder}
use Rattle.std.specs.Cmp.Lexicographic.{slice_cmp, lists_total}
use Rattle.agv_header.specs.Name.{name_cmp}
use Rattle.agv_layout.specs.Layout.{Layout, Name, IsNode, KeepsRules}
use Rattle.agv_layout.specs.Walk.{IsWalk, IsHops, IsBefore, IsRoute, IsWayTo}
use Rattle.agv_layout.proofs.Walking.{begins_at_node, ends_at_node}
use Rattle.agv_layout.proofs.Maps.{names_total}

less_is_not_greater : Less ≡ Greater → ⊥
less_is_not_greater e = cc

not_both : (ids others : List Name) → IsBefore ids others → IsBefore others ids → ⊥
not_both ids others h k =
    let o : IsTotalOrder (slice_cmp name_cmp) = lists_total names_total in
    less_is_not_greater (sym h ∙ o.antisymm ids others ∙ ap ordering_reverse k)

one_route : (layout : Layout) (from to : Name) (ids others : List Name) → IsRoute layout from to ids → IsRoute layout from to others → ids ≡ others
one_route layout from to ids others h k =
    let long = h.shortest others k.walk in
    let short = k.shortest ids h.walk in
    let even : length others ≡ length ids = omega (arith, long, short) in
    ⊎_elim
    (λ (same : others ≡ ids). sym same)
    (λ (before : IsBefore ids others).
    ⊎_elim
    (λ (same : ids ≡ others). same)
    (λ (after : IsBefore others ids). absurd (not_both ids others before after))
    (k.first ids h.walk (sym even)))
    (h.first others k.walk even)

pub one_way : (layout : Layout) (from to : Name) (one other : Option (List Name)) → IsWayTo layout from to one → IsWayTo layout from to other → one ≡ other
one_way layout from to None None h k = refl
one_way layout from to None (Some others) h k = absurd (h others k.walk)
one_way layout from to (Some ids) None h k = absurd (k ids h.walk)
one_way layout from to (Some ids) (Some others) h k = ap Some (one_route layout from to ids others h k)

pub as_many_hops : (layout : Layout) (from to : Name) (way : Option (List Name)) → IsWayTo layout from to way → IsHops layout from to (option_map length way)
as_many_hops layout from to None h = h
as_many_hops layout from to (Some ids) h = record { walk = (ids, h.walk, refl); least = h.shortest }

pub nodes_joined : (layout : Layout) → KeepsRules layout → (from to : Name) (ids : List Name) → IsWalk layout from ids to → IsNode layout from × IsNode layout to
nodes_joined layout plan from to ids h = (begins_at_node layout plan from to ids h, ends_at_node layout from to ids h)
