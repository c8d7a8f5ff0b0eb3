use Rattle.std.proofs.Common.{◌≡◌, ◌+◌, cond, not, ◌&&◌, take, is_some, vec_len, Some, None}
use Rattle.std.specs.Option.{option_or}
use Rattle.std.specs.BTreeMap as tree
use Rattle.std.specs.BTreeMap.{btree_map_len}
use Rattle.agv_header.specs.Name.{name_cmp}
use Rattle.agv_layout.specs.Layout.{Name as NameOf}
use Rattle.agv_layout.specs.Arrivals.{leads_to_one}
use Rattle.agv_layout.specs.LayoutOf.{is_among}
use Rattle.agv_layout.proofs.distances.next_level.Given as goal

abbrev pub invariant-loop-node : goal.invariant-loop-node
invariant-loop-node l =
    ((id : NameOf) → tree.get name_cmp l.distances id ≡ option_or (tree.get name_cmp l.fn.distances id) (cond (leads_to_one l.arrivals id (take l.node-index l.level)) (Some l.hops) None))
    × ((id : NameOf) → is_among l.found.items id ≡ (not (is_some (tree.get name_cmp l.fn.distances id)) && leads_to_one l.arrivals id (take l.node-index l.level)))
    × (btree_map_len l.distances ≡ btree_map_len l.fn.distances + vec_len l.found)
    × (tree.IsOrdered name_cmp l.fn.distances → tree.IsOrdered name_cmp l.distances)
