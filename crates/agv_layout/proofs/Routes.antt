-- Distances are least lengths of walks, and to take the first edge nearer at each node is to take the first of the shortest walks.
use Rattle.std.proofs.Common.{◌≡◌, ◌⊎◌, inl, inr, ⊎_elim, ℕ, zero, suc, ◌≤◌, true, false, ◌&&◌, Option, Some, None, List, [], ◌∷◌, length, refl, sym, ap, subst, ◌∙◌, true≢false, arith}
use Rattle.std.specs.declared.cmp.Ordering.TheVariants.{Less}
use Rattle.std.specs.Ordering.{ordering_then}
use Rattle.std.specs.Cmp.Lexicographic.{slice_cmp}
use Rattle.std.specs.Option.{unwrap_or}
use Rattle.std.specs.List.Sorted.{IsStrictlySortedBy}
use Rattle.std.specs.Map.{keys_of}
use Rattle.std.specs.FinSet as set
use Rattle.std.specs.BTreeMap.{BTreeMap, get}
use Rattle.std.proofs.lemmas.Bool.Decides.{nat_tests}
use Rattle.std.proofs.lemmas.Cmp.{tied_itself}
use Rattle.std.proofs.lemmas.List.{nil_from_length}
use Rattle.agv_header.specs.Name.{name_cmp}
use Rattle.agv_layout.specs.declared.layout.Layout.TheInside.{Inside}
use Rattle.agv_layout.specs.declared.edge.Edge.{Edge}
use Rattle.agv_layout.specs.declared.edge.EdgeEnds.{EdgeEnds}
use Rattle.agv_layout.specs.Layout.{Layout, Name, IsNode}
use Rattle.agv_layout.specs.Shown.{shown}
use Rattle.agv_layout.specs.Arrivals.{Joins}
use Rattle.agv_layout.specs.Levels.{Ways, AreDistances}
use Rattle.agv_layout.specs.Walk.{IsWalk, IsCutOff, IsHops, IsBefore, IsRoute}
use Rattle.agv_layout.specs.Ways.{is_less, is_nearer, is_way, first_way, followed}
use Rattle.agv_layout.proofs.Maps.{names_total, ties_with_itself, get-shown}
use Rattle.agv_layout.proofs.Nearest.{first_found, first_least, first_exists}
use Rattle.agv_layout.proofs.Followed.{followed-more}

same_Some : (a b : ℕ) → Some a ≡ Some b → a ≡ b
same_Some a b e = ap (λ o. unwrap_or o a) e

some_none : (n : ℕ) → Some n ≡ None → ⊥
some_none n e = cc

same_finish : (a b : EdgeEnds) → Some a ≡ Some b → a.finish ≡ b.finish
same_finish a b e = ap (λ (o : Option EdgeEnds). (unwrap_or o a).finish) e

module _ (inside : Inside) (goal : Name) where
  abbrev layout : Layout
  layout = shown inside

  abbrev edges : BTreeMap Name EdgeEnds
  edges = inside.edges

  -- the edges of the walk are steps
  ways_of_walk : (ids : List Name) (v : Name) → IsWalk layout v ids goal → Ways (Joins edges) goal (length ids) v
  ways_of_walk [] v h = h.1
  ways_of_walk (id ∷ ids) v h = (h.0, (id, sym (get-shown edges.entries id) ∙ h.1), ways_of_walk ids h.0 h.2)

  -- steps are the edges of a walk
  walk_of_ways : IsNode layout goal → (n : ℕ) (v : Name) → Ways (Joins edges) goal n v → (ids : List Name) × IsWalk layout v ids goal × (length ids ≡ n)
  walk_of_ways known zero v way = ([], (subst (IsNode layout) (sym way) known, way), refl)
  walk_of_ways known (suc n) v way =
      let rest = walk_of_ways known n way.0 way.2 in
      (way.1.0 ∷ rest.0, (way.0, get-shown edges.entries way.1.0 ∙ way.1.1, rest.1), ap suc rest.2)

  -- no walk leads to a node that is unknown
  pub cut_off : set.contains layout.nodes goal ≡ false → (v : Name) → IsCutOff layout v goal
  cut_off unknown v [] h = absurd (true≢false (sym (subst (IsNode layout) h.1 h.0) ∙ unknown))
  cut_off unknown v (id ∷ ids) h = cut_off unknown h.0 ids h.2

  module _ (known : IsNode layout goal) (distances : BTreeMap Name ℕ) (whole : AreDistances (Joins edges) goal (get name_cmp distances)) where
    hops_of : (v : Name) (o : Option ℕ) → get name_cmp distances v ≡ o → IsHops layout v goal o
    hops_of v None none = λ ids walk. let found = whole.full v (length ids) (ways_of_walk ids v walk) in absurd (some_none found.0 (sym found.1 ∙ none))
    hops_of v (Some n) some = record {
      walk = walk_of_ways known n v (whole.sound v n some);
      least = λ ids walk.
          let found = whole.full v (length ids) (ways_of_walk ids v walk) in
          subst (λ k. k ≤ length ids) (same_Some found.0 n (sym found.1 ∙ some)) found.2;
    }

    -- each distance is the least length of a walk, and where there is none no walk leads
    pub IsHops-distances : (v : Name) → IsHops layout v goal (get name_cmp distances v)
    IsHops-distances v = hops_of v (get name_cmp distances v) refl

    less_of : (here there : Option ℕ) (n : ℕ) → here ≡ Some (suc n) → is_less here there ≡ true → (k : ℕ) × (there ≡ Some k) × (k ≤ n)
    less_of None there n e less = cc
    less_of (Some h) None n e less = absurd (true≢false (sym less))
    less_of (Some h) (Some k) n e less = (k, refl, grind (arith, nat_tests, less, same_Some h (suc n) e))

    is_less_of : (here there : Option ℕ) (n k : ℕ) → here ≡ Some (suc n) → there ≡ Some k → k ≤ n → is_less here there ≡ true
    is_less_of None there n k e f fits = cc
    is_less_of (Some h) None n k e f fits = cc
    is_less_of (Some h) (Some t) n k e f fits = grind (arith, nat_tests, same_Some h (suc n) e, same_Some t k f, fits)

    -- an edge that leads nearer leads one nearer
    one_nearer : (n : ℕ) (v m id : Name) → get name_cmp distances v ≡ Some (suc n) → get name_cmp edges id ≡ Some (record { start = v; finish = m }) → is_nearer distances (record { start = v; finish = m }) ≡ true → get name_cmp distances m ≡ Some n
    one_nearer n v m id far edge near =
        let there = less_of (get name_cmp distances v) (get name_cmp distances m) n far near in
        let back = whole.full v (suc there.0) (m, (id, edge), whole.sound m there.0 there.1) in
        let least : n ≤ there.0 = omega (arith, same_Some back.0 (suc n) (sym back.1 ∙ far), back.2) in
        there.1 ∙ ap Some (omega (arith, least, there.2))

    -- the first edge of a walk of least length leads nearer
    is_way_of : (n : ℕ) (v m : Name) (k : ℕ) → get name_cmp distances v ≡ Some (suc n) → get name_cmp distances m ≡ Some k → k ≤ n → is_way distances v (record { start = v; finish = m }) ≡ true
    is_way_of n v m k far there fits = ap (λ b. b && is_nearer distances (record { start = v; finish = m })) (ties_with_itself v) ∙ is_less_of (get name_cmp distances v) (get name_cmp distances m) n k far there fits

    module _ (ways : BTreeMap Name Edge) (sorted : IsStrictlySortedBy name_cmp (keys_of edges.entries)) (first : (at : Name) → get name_cmp ways at ≡ first_way distances at edges.entries) where
      abbrev Right : Name → ℕ → List Name → Type 0
      Right v n ids = IsRoute layout v goal ids × (length ids ≡ n)

      at_goal : (v : Name) → get name_cmp distances v ≡ Some 0 → Right v 0 []
      at_goal v here =
          let same = whole.sound v 0 here in
          (record { walk = (subst (IsNode layout) (sym same) known, same); shortest = λ others walk. omega arith; first = λ others walk len. inl (nil_from_length others len) }, refl)

      not_after : (n : ℕ) (v : Name) (edge : Edge) (rest : List Name) → get name_cmp distances v ≡ Some (suc n) → first_way distances v edges.entries ≡ Some edge → get name_cmp edges edge.id ≡ Some (record { start = v; finish = edge.finish }) → Right edge.finish n rest → (others : List Name) → IsWalk layout v others goal → length others ≡ suc (length rest) → (others ≡ edge.id ∷ rest) ⊎ IsBefore (edge.id ∷ rest) others
      not_after n v edge rest far chosen edge_is right [] walk len = absurd (omega (arith, len))
      not_after n v edge rest far chosen edge_is right (id ∷ ids) walk len =
          let short : length ids ≡ length rest = omega (arith, len) in
          let joins = sym (get-shown edges.entries id) ∙ walk.1 in
          let there = whole.full walk.0 (length ids) (ways_of_walk ids walk.0 walk.2) in
          let way = is_way_of n v walk.0 there.0 far there.1 (omega (arith, there.2, short, right.1)) in
          ⊎_elim
          (λ (same : id ≡ edge.id).
          let finish : walk.0 ≡ edge.finish = same_finish _ _ (sym joins ∙ ap (get name_cmp edges) same ∙ edge_is) in
          ⊎_elim
          (λ (e : ids ≡ rest). inl (λ i. same i ∷ e i))
          (λ (before : IsBefore rest ids).
          inr (ap (λ x. ordering_then (name_cmp edge.id x) (slice_cmp name_cmp rest ids)) same ∙ ap (λ r. ordering_then r (slice_cmp name_cmp rest ids)) (tied_itself names_total edge.id) ∙ before))
          (right.0.first ids (subst (λ x. IsWalk layout x ids goal) finish walk.2) short))
          (λ (less : name_cmp edge.id id ≡ Less). inr (ap (λ r. ordering_then r (slice_cmp name_cmp rest ids)) less))
          (first_least distances v edges.entries sorted id (record { start = v; finish = walk.0 }) joins way edge chosen)

      one_on : (n : ℕ) (v : Name) (edge : Edge) (rest : List Name) → get name_cmp distances v ≡ Some (suc n) → first_way distances v edges.entries ≡ Some edge → get name_cmp edges edge.id ≡ Some (record { start = v; finish = edge.finish }) → Right edge.finish n rest → Right v (suc n) (edge.id ∷ rest)
      one_on n v edge rest far chosen edge_is right = (
        record {
          walk = (edge.finish, get-shown edges.entries edge.id ∙ edge_is, right.0.walk);
          shortest = λ others walk.
              let found = whole.full v (length others) (ways_of_walk others v walk) in
              omega (arith, same_Some found.0 (suc n) (sym found.1 ∙ far), found.2, right.1);
          first = not_after n v edge rest far chosen edge_is right;
        },
        ap suc right.1,
      )

      right : (n : ℕ) (v : Name) → get name_cmp distances v ≡ Some n → Right v n (followed ways v n)
      right zero v here = at_goal v here
      right (suc n) v far =
          let way = whole.sound v (suc n) far in
          let there = whole.full way.0 n way.2 in
          let chosen = first_exists distances v edges.entries way.1.0 (record { start = v; finish = way.0 }) way.1.1 (is_way_of n v way.0 there.0 far there.1 there.2) in
          let found = first_found distances v edges.entries sorted chosen.0 chosen.1 in
          let on = right n chosen.0.finish (one_nearer n v chosen.0.finish chosen.0.id far found.0 found.1) in
          subst (Right v (suc n)) (sym (followed-more ways v (suc n) n chosen.0 refl (first v ∙ chosen.1))) (one_on n v chosen.0 (followed ways chosen.0.finish n) far chosen.1 found.0 on)

      -- to follow the ways is the route
      pub IsRoute-followed : (n : ℕ) (v : Name) → get name_cmp distances v ≡ Some n → IsRoute layout v goal (followed ways v n)
      IsRoute-followed n v far = (right n v far).0
