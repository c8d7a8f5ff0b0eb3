use Rattle.std.proofs.Common.{◌≡◌, ◌+◌, cond, not, ◌&&◌, ◌||◌, take, is_some, vec_len, Some, None}
use Rattle.std.specs.Option.{option_or}
use Rattle.std.specs.BTreeMap as tree
use Rattle.std.specs.BTreeMap.{btree_map_len}
use Rattle.agv_header.specs.Name.{name_cmp}
use Rattle.agv_layout.specs.Layout.{Name as NameOf}
use Rattle.agv_layout.specs.LayoutOf.{is_among}
use Rattle.agv_layout.proofs.distances.note_all.Given as goal

abbrev pub invariant-loop-start : goal.invariant-loop-start
invariant-loop-start l =
    ((id : NameOf) → tree.get name_cmp l.distances id ≡ option_or (tree.get name_cmp l.fn.distances id) (cond (is_among (take l.start-index l.starts) id) (Some l.hops) None))
    × ((id : NameOf) → is_among l.found.items id ≡ (is_among l.fn.found.items id || (not (is_some (tree.get name_cmp l.fn.distances id)) && is_among (take l.start-index l.starts) id)))
    × (btree_map_len l.distances + vec_len l.fn.found ≡ btree_map_len l.fn.distances + vec_len l.found)
    × (tree.IsOrdered name_cmp l.fn.distances → tree.IsOrdered name_cmp l.distances)
