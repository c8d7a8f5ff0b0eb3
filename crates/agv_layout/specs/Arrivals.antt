-- Which nodes are one edge away from a node. No public clause cites this.
use Rattle.std.specs.Prelude.{◌≡◌, Bool, ◌&&◌, List, [], Some}
use Rattle.std.specs.List.{list_any}
use Rattle.std.specs.Option.{unwrap_or, option_map}
use Rattle.std.specs.BTreeMap.{BTreeMap, is_at, get}
use Rattle.std.specs.declared.vec.Vec.{Vec}
use Rattle.agv_header.specs.Name.{name_cmp}
use Rattle.agv_layout.specs.declared.edge.EdgeEnds.{EdgeEnds}
use Rattle.agv_layout.specs.Layout.{Name}
use Rattle.agv_layout.specs.LayoutOf.{is_among}

-- the edge leads from the first node to the second
abbrev pub is_so : Name → Name → Name × EdgeEnds → Bool
is_so start finish edge = is_at (name_cmp edge.1.finish) finish && is_at (name_cmp edge.1.start) start

module _ {A : Type 0} where
  -- the starts of the edges that finish at a node
  abbrev pub starts_of : BTreeMap Name (Vec Name A) → Name → List Name
  starts_of arrivals finish = unwrap_or (option_map (λ starts. starts.items) (get name_cmp arrivals finish)) []

  -- an edge leads from the first node to the second
  abbrev pub leads : BTreeMap Name (Vec Name A) → Name → Name → Bool
  leads arrivals start finish = is_among (starts_of arrivals finish) start

  -- an edge leads from the node to one of these
  abbrev pub leads_to_one : BTreeMap Name (Vec Name A) → Name → List Name → Bool
  leads_to_one arrivals start level = list_any (leads arrivals start) level

-- an edge leads from the first node to the second
abbrev pub Joins : BTreeMap Name EdgeEnds → Name → Name → Type 0
Joins edges start finish = (id : Name) × (get name_cmp edges id ≡ Some (record { start = start; finish = finish }))
