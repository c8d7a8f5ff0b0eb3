-- The route as a function: of the shortest walks from one node to another, the first by the names of its edges (this project's profile).
use Rattle.std.specs.Prelude.{ℕ, zero, suc, cond, ◌&&◌, List, [], ◌∷◌, length, Option, None, Some, option_map}
use Rattle.std.specs.BTreeMap.{is_at}
use Rattle.std.specs.FinMap as map
use Rattle.std.specs.FinSet as set
use Rattle.std.specs.Option.{option_or}
use Rattle.agv_header.specs.Name.{name_cmp}
use Rattle.agv_layout.specs.declared.edge.EdgeEnds.{EdgeEnds}
use Rattle.agv_layout.specs.Layout.{Layout, Name}

-- the walk that takes this edge and continues from its finish, if the edge starts at the node and such a walk exists
abbrev pub onward : (Name → Option (List Name)) → Name → Name × EdgeEnds → Option (List Name)
onward goes_on at e = cond (is_at (name_cmp e.1.start) at) (option_map (λ ids. e.0 ∷ ids) (goes_on e.1.finish)) None

-- the walk by the first of these edges that has one
abbrev pub first_onward : (Name → Option (List Name)) → Name → List (Name × EdgeEnds) → Option (List Name)
first_onward goes_on at [] = None
first_onward goes_on at (e ∷ es) = option_or (onward goes_on at e) (first_onward goes_on at es)

module _ (layout : Layout) where
  -- the first walk of exactly this many edges, the edges being tried in the order of their names; the empty list is a walk from a known node to itself
  abbrev pub walk_of : ℕ → Name → Name → Option (List Name)
  walk_of zero from to = cond (set.contains layout.nodes from && is_at (name_cmp from) to) (Some []) None
  walk_of (suc n) from to = first_onward (λ next. walk_of n next to) from (map.entries layout.edges)

  -- the first walk of the fewest edges, if it has fewer edges than this number
  abbrev pub walk_below : ℕ → Name → Name → Option (List Name)
  walk_below zero from to = None
  walk_below (suc n) from to = option_or (walk_below n from to) (walk_of n from to)

  -- the route: the first walk of the fewest edges. It takes no edge twice, so it has at most as many edges as the layout
  unfoldable pub route_of : Name → Name → Option (List Name)
  route_of from to = walk_below (suc (map.len layout.edges)) from to

  -- the number of edges of the route, if there is one
  abbrev pub hops_of : Name → Name → Option ℕ
  hops_of from to = option_map length (route_of from to)
