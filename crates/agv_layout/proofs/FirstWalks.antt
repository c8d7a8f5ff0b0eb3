-- The first walk of just so many edges is the first of all of them, and where there is none no walk has so many.
use Rattle.std.proofs.Common.{◌≡◌, ◌⊎◌, inl, inr, ⊎_elim, ℕ, zero, suc, true, false, cond, ◌&&◌, Option, Some, None, List, [], ◌∷◌, length, Ordering, Less, is_eq, is_lt, refl, sym, ap, subst, ◌∙◌, true≢false, arith}
use Rattle.std.specs.BTreeMap.{is_at}
use Rattle.std.specs.Cmp.Lexicographic.{slice_cmp}
use Rattle.std.specs.FinMap as map
use Rattle.std.specs.FinMap.{get-entries, entries_sorted}
use Rattle.std.specs.FinMap.Entries.{find, is_sorted, below_all}
use Rattle.std.specs.FinSet as set
use Rattle.std.specs.Option.{option_map, option_or}
use Rattle.std.specs.Ordering.{ordering_then}
use Rattle.std.proofs.lemmas.Bool.{and_parts}
use Rattle.std.proofs.lemmas.Cmp.{tied_itself}
use Rattle.std.proofs.lemmas.List.{nil_from_length}
use Rattle.std.proofs.lemmas.Option.{same_Some}
use Rattle.agv_header.specs.Name.{name_cmp}
use Rattle.agv_layout.specs.declared.edge.EdgeEnds.{EdgeEnds}
use Rattle.agv_layout.specs.Layout.{Layout, Name, IsEdge}
use Rattle.agv_layout.specs.RouteOf.{onward, first_onward, walk_of}
use Rattle.agv_layout.specs.Walk.{IsWalk, IsBefore}
use Rattle.agv_layout.proofs.InOrder.{is_true, is_less}
use Rattle.agv_layout.proofs.Maps.{names_total, same_name, ties_with_itself}

-- ---- entries in the order of their names
-- an entry that is found among those after a name comes after it
comes_after : (x id : Name) (ends : EdgeEnds) (es : List (Name × EdgeEnds)) → below_all name_cmp x es ≡ true → find name_cmp id es ≡ Some ends → name_cmp x id ≡ Less
comes_after x id ends [] below found = cc
comes_after x id ends (e ∷ es) below found =
    let parts = and_parts (is_lt (name_cmp x e.0)) (below_all name_cmp x es) below in
    elim (is_at (name_cmp id) e.0) as (λ b. is_at (name_cmp id) e.0 ≡ b → cond b (Some e.1) (find name_cmp id es) ≡ Some ends → name_cmp x id ≡ Less) [
      | true ↦ λ here _. ap (name_cmp x) (same_name id e.0 here) ∙ is_less _ parts.0
      | false ↦ λ _ there. comes_after x id ends es parts.1 there
    ] refl found

-- the first of these edges has this name, or the name comes after it and is that of a later edge
here_or_later : (id : Name) (ends : EdgeEnds) (e : Name × EdgeEnds) (es : List (Name × EdgeEnds)) → below_all name_cmp e.0 es ≡ true → find name_cmp id (e ∷ es) ≡ Some ends
    → ((id ≡ e.0) × (e.1 ≡ ends)) ⊎ ((name_cmp e.0 id ≡ Less) × (find name_cmp id es ≡ Some ends))
here_or_later id ends e es below found =
    elim (is_at (name_cmp id) e.0) as (λ b. is_at (name_cmp id) e.0 ≡ b → cond b (Some e.1) (find name_cmp id es) ≡ Some ends → ((id ≡ e.0) × (e.1 ≡ ends)) ⊎ ((name_cmp e.0 id ≡ Less) × (find name_cmp id es ≡ Some ends))) [
      | true ↦ λ here is. inl (same_name id e.0 here, same_Some _ _ is)
      | false ↦ λ _ there. inr (comes_after e.0 id ends es below there, there)
    ] refl found

less_is_not_tied : (r : Ordering) → r ≡ Less → is_eq r ≡ true → ⊥
less_is_not_tied r less tied = true≢false (sym tied ∙ ap is_eq less)

-- what is found later is found
found_later : (id : Name) (ends : EdgeEnds) (e : Name × EdgeEnds) (es : List (Name × EdgeEnds)) → below_all name_cmp e.0 es ≡ true → find name_cmp id es ≡ Some ends → find name_cmp id (e ∷ es) ≡ Some ends
found_later id ends e es below found =
    elim (is_at (name_cmp id) e.0) as (λ b. is_at (name_cmp id) e.0 ≡ b → cond b (Some e.1) (find name_cmp id es) ≡ Some ends) [
      | true ↦ λ here.
          let same = same_name id e.0 here in
          absurd (less_is_not_tied (name_cmp e.0 id) (comes_after e.0 id ends es below found) (ap (λ x. is_at (name_cmp e.0) x) same ∙ ties_with_itself e.0))
      | false ↦ λ _. found
    ] refl

-- ---- lists of names, by their first
abbrev IsNotAfter : List Name → List Name → Type 0
IsNotAfter ids others = (others ≡ ids) ⊎ IsBefore ids others

lesser_head : (id other : Name) (ids others : List Name) → name_cmp id other ≡ Less → IsNotAfter (id ∷ ids) (other ∷ others)
lesser_head id other ids others less = inr (ap (λ r. ordering_then r (slice_cmp name_cmp ids others)) less)

same_head : (id other : Name) (ids others : List Name) → other ≡ id → IsNotAfter ids others → IsNotAfter (id ∷ ids) (other ∷ others)
same_head id other ids others same =
    ⊎_elim
    (λ (rest : others ≡ ids). inl (λ i. same i ∷ rest i))
    (λ (before : IsBefore ids others).
    inr (ap (λ r. ordering_then r (slice_cmp name_cmp ids others)) (ap (name_cmp id) same ∙ tied_itself names_total id) ∙ before))

module _ (layout : Layout) (to : Name) where
  -- of the walks of just so many edges from a node this is the first
  pub record IsFirst (n : ℕ) (from : Name) (ids : List Name) : Type 0 where
    pub walk : IsWalk layout from ids to
    pub count : length ids ≡ n
    pub first : (others : List Name) → IsWalk layout from others to → length others ≡ n → IsNotAfter ids others

  -- or there is none
  abbrev pub IsFirstIfAny : ℕ → Name → Option (List Name) → Type 0
  IsFirstIfAny n from None = (ids : List Name) → IsWalk layout from ids to → length ids ≡ n → ⊥
  IsFirstIfAny n from (Some ids) = IsFirst n from ids

  module _ (n : ℕ) (from : Name) where
    -- a walk of one edge more, whose first edge is one of these
    record Begins (es : List (Name × EdgeEnds)) (id : Name) (ids : List Name) : Type 0 where
      next : Name
      edge : find name_cmp id es ≡ Some (record { start = from; finish = next })
      walk : IsWalk layout next ids to
      count : length ids ≡ n

    -- of those walks this is the first
    record IsFirstBy (es : List (Name × EdgeEnds)) (ids : List Name) : Type 0 where
      walk : IsWalk layout from ids to
      count : length ids ≡ suc n
      first : (id : Name) (others : List Name) → Begins es id others → IsNotAfter ids (id ∷ others)

    abbrev IsFirstByIfAny : List (Name × EdgeEnds) → Option (List Name) → Type 0
    IsFirstByIfAny es None = (id : Name) (ids : List Name) → Begins es id ids → ⊥
    IsFirstByIfAny es (Some ids) = IsFirstBy es ids

    -- of the walks that begin with one edge this is the first, or there is none
    abbrev IsOnward : Name × EdgeEnds → Option (List Name) → Type 0
    IsOnward e None = (next : Name) (ids : List Name) → e.1 ≡ record { start = from; finish = next } → IsWalk layout next ids to → length ids ≡ n → ⊥
    IsOnward e (Some ids) = (rest : List Name) × (ids ≡ e.0 ∷ rest) × (e.1.start ≡ from) × IsFirst n e.1.finish rest

    module _ (goes_on : Name → Option (List Name)) (goes : (next : Name) → IsFirstIfAny n next (goes_on next)) where
      onward_after : (e : Name × EdgeEnds) → e.1.start ≡ from → (o : Option (List Name)) → IsFirstIfAny n e.1.finish o → IsOnward e (option_map (λ ids. e.0 ∷ ids) o)
      onward_after e starts None none = λ next ids ends walk count. none ids (subst (λ (at : Name). IsWalk layout at ids to) (ap (λ (x : EdgeEnds). x.finish) (sym ends)) walk) count
      onward_after e starts (Some rest) first = (rest, refl, starts, first)

      is_onward : (e : Name × EdgeEnds) → IsOnward e (onward goes_on from e)
      is_onward e =
          elim (is_at (name_cmp e.1.start) from) as (λ b. is_at (name_cmp e.1.start) from ≡ b → IsOnward e (cond b (option_map (λ ids. e.0 ∷ ids) (goes_on e.1.finish)) None)) [
            | true ↦ λ here. onward_after e (same_name e.1.start from here) (goes_on e.1.finish) (goes e.1.finish)
            | false ↦ λ apart next ids ends walk count.
                true≢false (sym (ap (λ (x : EdgeEnds). is_at (name_cmp x.start) from) ends ∙ ties_with_itself from) ∙ apart)
          ] refl

      module _ (e : Name × EdgeEnds) (es : List (Name × EdgeEnds)) (below : below_all name_cmp e.0 es ≡ true) (edge : IsEdge layout e.0 e.1) where
        later : (id : Name) (ids : List Name) (begins : Begins (e ∷ es) id ids) → find name_cmp id es ≡ Some (record { start = from; finish = begins.next }) → Begins es id ids
        later id ids begins there = record { next = begins.next; edge = there; walk = begins.walk; count = begins.count }

        one_more : (o rest : Option (List Name)) → IsOnward e o → IsFirstByIfAny es rest → IsFirstByIfAny (e ∷ es) (option_or o rest)
        one_more None None unfit none = λ id ids begins.
            ⊎_elim
            (λ (here : (id ≡ e.0) × (e.1 ≡ record { start = from; finish = begins.next })). unfit begins.next ids here.1 begins.walk begins.count)
            (λ (there : (name_cmp e.0 id ≡ Less) × (find name_cmp id es ≡ Some (record { start = from; finish = begins.next }))). none id ids (later id ids begins there.1))
            (here_or_later id _ e es below begins.edge)
        one_more None (Some ids) unfit some = record {
          walk = some.walk;
          count = some.count;
          first = λ id others begins.
              ⊎_elim
              (λ (here : (id ≡ e.0) × (e.1 ≡ record { start = from; finish = begins.next })). absurd (unfit begins.next others here.1 begins.walk begins.count))
              (λ (there : (name_cmp e.0 id ≡ Less) × (find name_cmp id es ≡ Some (record { start = from; finish = begins.next }))). some.first id others (later id others begins there.1))
              (here_or_later id _ e es below begins.edge);
        }
        one_more (Some ids) rest some after =
            let ends : e.1 ≡ record { start = from; finish = e.1.finish } = λ i. record { start = some.2 i; finish = e.1.finish } in
            subst (IsFirstBy (e ∷ es)) (sym some.1) (record {
              walk = (e.1.finish, edge ∙ ap Some ends, some.3.walk);
              count = ap suc some.3.count;
              first = λ id others begins.
                  ⊎_elim
                  (λ (here : (id ≡ e.0) × (e.1 ≡ record { start = from; finish = begins.next })).
                  same_head e.0 id some.0 others here.0
                  (some.3.first others (subst (λ (at : Name). IsWalk layout at others to) (ap (λ (x : EdgeEnds). x.finish) (sym here.1)) begins.walk) begins.count))
                  (λ (there : (name_cmp e.0 id ≡ Less) × (find name_cmp id es ≡ Some (record { start = from; finish = begins.next }))). lesser_head e.0 id some.0 others there.0)
                  (here_or_later id _ e es below begins.edge);
            })

      first_by : (es : List (Name × EdgeEnds)) → is_sorted name_cmp es ≡ true → ((id : Name) (ends : EdgeEnds) → find name_cmp id es ≡ Some ends → IsEdge layout id ends) → IsFirstByIfAny es (first_onward goes_on from es)
      first_by [] sorted edges = λ id ids begins. let found = begins.edge in cc
      first_by (e ∷ es) sorted edges =
          let parts = and_parts (below_all name_cmp e.0 es) (is_sorted name_cmp es) sorted in
          one_more e es parts.0 (edges e.0 e.1 (ap (λ b. cond b (Some e.1) (find name_cmp e.0 es)) (ties_with_itself e.0))) (onward goes_on from e) (first_onward goes_on from es) (is_onward e)
          (first_by es parts.1 (λ id ends found. edges id ends (found_later id ends e es parts.0 found)))

    -- a walk of one edge more begins with an edge
    begins_of : (id : Name) (ids : List Name) → IsWalk layout from (id ∷ ids) to → length (id ∷ ids) ≡ suc n → Begins (map.entries layout.edges) id ids
    begins_of id ids walk count = record { next = walk.0; edge = sym (get-entries layout.edges id) ∙ walk.1; walk = walk.2; count = omega (arith, count) }

    none_of_edges : IsFirstByIfAny (map.entries layout.edges) None → IsFirstIfAny (suc n) from None
    none_of_edges none [] walk count = omega (arith, count)
    none_of_edges none (id ∷ ids) walk count = none id ids (begins_of id ids walk count)

    first_of_edges : (ids : List Name) → IsFirstBy (map.entries layout.edges) ids → (others : List Name) → IsWalk layout from others to → length others ≡ suc n → IsNotAfter ids others
    first_of_edges ids some [] walk count = absurd (omega (arith, count))
    first_of_edges ids some (id ∷ others) walk count = some.first id others (begins_of id others walk count)

    from_edges : (o : Option (List Name)) → IsFirstByIfAny (map.entries layout.edges) o → IsFirstIfAny (suc n) from o
    from_edges None none = none_of_edges none
    from_edges (Some ids) some = record { walk = some.walk; count = some.count; first = first_of_edges ids some }

  -- no edge is a walk from a node to itself
  no_edge : (from : Name) → IsFirstIfAny 0 from (walk_of layout 0 from to)
  no_edge from =
      elim (set.contains layout.nodes from && is_at (name_cmp from) to) as (λ b. (set.contains layout.nodes from && is_at (name_cmp from) to) ≡ b → IsFirstIfAny 0 from (cond b (Some []) None)) [
        | true ↦ λ known.
            let parts = and_parts (set.contains layout.nodes from) (is_at (name_cmp from) to) known in
            record { walk = (parts.0, same_name from to parts.1); count = refl; first = λ others walk count. inl (nil_from_length others count) }
        | false ↦ λ unknown ids walk count.
            let empty = subst (λ (l : List Name). IsWalk layout from l to) (nil_from_length ids count) walk in
            true≢false (sym (ap (λ b. b && is_at (name_cmp from) to) empty.0 ∙ ap (is_at (name_cmp from)) (sym empty.1) ∙ ties_with_itself from) ∙ unknown)
      ] refl

  pub first_walk : (n : ℕ) (from : Name) → IsFirstIfAny n from (walk_of layout n from to)
  first_walk zero from = no_edge from
  first_walk (suc n) from =
      from_edges n from _ (first_by n from (λ next. walk_of layout n next to) (first_walk n) (map.entries layout.edges) (is_true _ (entries_sorted layout.edges)) (λ id ends found. get-entries layout.edges id ∙ found))
