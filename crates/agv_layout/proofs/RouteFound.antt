-- The route as a function is the way between two nodes, for every layout: the laws that a proof above this crate cites.
use Rattle.std.proofs.Common.{◌≡◌, ℕ, zero, suc, ◌<◌, Option, Some, None, List, length, refl, ap, subst, ◌∙◌, arith}
use Rattle.std.specs.FinMap as map
use Rattle.std.specs.Option.{option_or}
use Rattle.agv_layout.specs.Layout.{Layout, Name}
use Rattle.agv_layout.specs.RouteOf.{walk_of, walk_below, route_of, hops_of}
use Rattle.agv_layout.specs.Walk.{IsWalk, IsCutOff, IsHops, IsRoute, IsWayTo}
use Rattle.agv_layout.proofs.FirstWalks.{IsFirstIfAny, first_walk}
use Rattle.agv_layout.proofs.Loops.{no_more_than_edges}
use Rattle.agv_layout.proofs.Uniques.{one_way, as_many_hops}

-- it takes one number of edges, or none
one_number : (layout : Layout) (from to : Name) (one other : Option ℕ) → IsHops layout from to one → IsHops layout from to other → one ≡ other
one_number layout from to None None h k = refl
one_number layout from to None (Some n) h k = absurd (h k.walk.0 k.walk.1)
one_number layout from to (Some m) None h k = absurd (k h.walk.0 h.walk.1)
one_number layout from to (Some m) (Some n) h k =
    let here = h.least k.walk.0 k.walk.1 in
    let there = k.least h.walk.0 h.walk.1 in
    ap Some (omega (arith, here, there, h.walk.2, k.walk.2))

module _ (layout : Layout) (from to : Name) where
  -- the way, or no walk has fewer edges than so many
  abbrev IsWayBelow : ℕ → Option (List Name) → Type 0
  IsWayBelow n None = (ids : List Name) → IsWalk layout from ids to → length ids < n → ⊥
  IsWayBelow n (Some ids) = IsRoute layout from to ids

  one_longer : (n : ℕ) (below at : Option (List Name)) → IsWayBelow n below → IsFirstIfAny layout to n from at → IsWayBelow (suc n) (option_or below at)
  one_longer n (Some ids) at is first = is
  one_longer n None None none unfit = λ ids walk fits. let other = none ids walk in let same = unfit ids walk in omega (arith, other, same, fits)
  one_longer n None (Some ids) none first = record {
    walk = first.walk;
    shortest = λ others walk. let longer = none others walk in omega (arith, first.count, longer);
    first = λ others walk count. first.first others walk (count ∙ first.count);
  }

  way_below : (n : ℕ) → IsWayBelow n (walk_below layout n from to)
  way_below zero = λ ids walk fits. omega (arith, fits)
  way_below (suc n) = one_longer n (walk_below layout n from to) (walk_of layout n from to) (way_below n) (first_walk layout to n from)

  -- a walk of more edges than there are can be made shorter, so it is enough to try those of no more
  among_all : (o : Option (List Name)) → IsWayBelow (suc (map.len layout.edges)) o → IsWayTo layout from to o
  among_all None none = λ ids walk. let few = no_more_than_edges layout to from ids walk in none few.0 few.1 (omega (arith, few.2))
  among_all (Some ids) is = is

  -- the function gives the way
  pub route_is_found : IsWayTo layout from to (route_of layout from to)
  unfolding route_of
  route_is_found = among_all _ (way_below (suc (map.len layout.edges)))

  -- what it gives is a walk that no walk is shorter than, and that is the first of all walks of its length
  pub is_route : (ids : List Name) → route_of layout from to ≡ Some ids → IsRoute layout from to ids
  is_route ids is = subst (IsWayTo layout from to) is route_is_found

  -- where it gives none, no walk leads there
  pub is_cut_off : route_of layout from to ≡ None → IsCutOff layout from to
  is_cut_off none = subst (IsWayTo layout from to) none route_is_found

  -- the way is what it gives
  pub exact_way : (way : Option (List Name)) → IsWayTo layout from to way → way ≡ route_of layout from to
  exact_way way is = one_way layout from to way (route_of layout from to) is route_is_found

  -- and so is its number of edges
  pub exact_hops : (hops : Option ℕ) → IsHops layout from to hops → hops ≡ hops_of layout from to
  exact_hops hops is = one_number layout from to hops (hops_of layout from to) is (as_many_hops layout from to (route_of layout from to) route_is_found)
