-- The edge to take at each node, and the walk along these edges. No public clause cites this.
use Rattle.std.specs.Prelude.{ℕ, zero, suc, Bool, false, cond, ◌&&◌, nat_lt, List, [], ◌∷◌, Option, None, Some}
use Rattle.std.specs.BTreeMap.{BTreeMap, is_at, get}
use Rattle.agv_header.specs.Name.{name_cmp}
use Rattle.agv_layout.specs.declared.edge.Edge.{Edge}
use Rattle.agv_layout.specs.declared.edge.EdgeEnds.{EdgeEnds}
use Rattle.agv_layout.specs.Layout.{Name, edge_of}

-- both distances are known, and the second is less than the first
abbrev pub is_less : Option ℕ → Option ℕ → Bool
is_less None there = false
is_less (Some here) None = false
is_less (Some here) (Some there) = nat_lt there here

-- the edge's finish is nearer to the goal than its start
abbrev pub is_nearer : BTreeMap Name ℕ → EdgeEnds → Bool
is_nearer distances ends = is_less (get name_cmp distances ends.start) (get name_cmp distances ends.finish)

-- the edge starts at the node and leads nearer to the goal
abbrev pub is_way : BTreeMap Name ℕ → Name → EdgeEnds → Bool
is_way distances at ends = is_at (name_cmp ends.start) at && is_nearer distances ends

-- of these edges, the first that starts at the node and leads nearer to the goal
abbrev pub first_way : BTreeMap Name ℕ → Name → List (Name × EdgeEnds) → Option Edge
first_way distances at [] = None
first_way distances at (e ∷ es) = cond (is_way distances at e.1) (Some (edge_of e.0 e.1)) (first_way distances at es)

-- the edge's id and then the rest from its finish; empty if there is no edge
abbrev pub onto : (Name → List Name) → Option Edge → List Name
onto rest None = []
onto rest (Some edge) = edge.id ∷ rest edge.finish

-- the walk of at most this many edges that takes each node's edge
abbrev pub followed : BTreeMap Name Edge → Name → ℕ → List Name
followed ways at zero = []
followed ways at (suc n) = onto (λ next. followed ways next n) (get name_cmp ways at)
