-- What holds of walks: they join, a walk splits at each of its nodes, and a walk ends at one node.
use Rattle.std.proofs.Common.{◌≡◌, List, [], ◌∷◌, ◌++◌, refl, sym, ap, subst, ◌∙◌}
use Rattle.std.proofs.lemmas.Option.{same_Some}
use Rattle.agv_layout.specs.declared.edge.EdgeEnds.{EdgeEnds}
use Rattle.agv_layout.specs.Layout.{Layout, Name, IsNode, KeepsRules}
use Rattle.agv_layout.specs.Walk.{IsWalk}

module _ (layout : Layout) where
  -- a walk ends at a node of the layout
  pub ends_at_node : (from to : Name) (ids : List Name) → IsWalk layout from ids to → IsNode layout to
  ends_at_node from to [] walk = subst (IsNode layout) walk.1 walk.0
  ends_at_node from to (id ∷ ids) walk = ends_at_node walk.0 to ids walk.2

  -- and begins at one
  pub begins_at_node : KeepsRules layout → (from to : Name) (ids : List Name) → IsWalk layout from ids to → IsNode layout from
  begins_at_node plan from to [] walk = walk.0
  begins_at_node plan from to (id ∷ ids) walk = (plan.leads id _ walk.1).0

  -- a walk, and a walk from where it ends, are one walk
  pub walks_join : (from via to : Name) (ids others : List Name) → IsWalk layout from ids via → IsWalk layout via others to → IsWalk layout from (ids ++ others) to
  walks_join from via to [] others walk more = subst (λ (at : Name). IsWalk layout at others to) (sym walk.1) more
  walks_join from via to (id ∷ ids) others walk more = (walk.0, walk.1, walks_join walk.0 via to ids others walk.2 more)

  -- a walk is two wherever it is cut, and the second begins where the first ends
  pub walk_splits : KeepsRules layout → (from to : Name) (ids others : List Name) → IsWalk layout from (ids ++ others) to
      → (via : Name) × IsWalk layout from ids via × IsWalk layout via others to
  walk_splits plan from to [] others walk = (from, (begins_at_node plan from to others walk, refl), walk)
  walk_splits plan from to (id ∷ ids) others walk =
      let rest = walk_splits plan walk.0 to ids others walk.2 in
      (rest.0, (walk.0, walk.1, rest.1), rest.2)

  -- one walk ends at one node
  pub one_end : (from to other : Name) (ids : List Name) → IsWalk layout from ids to → IsWalk layout from ids other → to ≡ other
  one_end from to other [] walk again = sym walk.1 ∙ again.1
  one_end from to other (id ∷ ids) walk again =
      let same : again.0 ≡ walk.0 = ap (λ (ends : EdgeEnds). ends.finish) (same_Some _ _ (sym again.1 ∙ walk.1)) in
      one_end walk.0 to other ids walk.2 (subst (λ (next : Name). IsWalk layout next ids other) same again.2)
