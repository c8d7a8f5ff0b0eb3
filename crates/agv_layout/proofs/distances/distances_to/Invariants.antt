use Rattle.std.proofs.Common.{◌≡◌, ℕ, ◌+◌, ◌-◌, ◌≤◌, true, vec_len, Some}
use Rattle.std.specs.BTreeMap as tree
use Rattle.std.specs.BTreeMap.{btree_map_len}
use Rattle.std.specs.BTreeSet.{contains}
use Rattle.std.specs.FinSet as set
use Rattle.agv_header.specs.Name.{name_cmp}
use Rattle.agv_layout.specs.Layout.{Name}
use Rattle.agv_layout.specs.Arrivals.{Joins}
use Rattle.agv_layout.specs.LayoutOf.{is_among}
use Rattle.agv_layout.proofs.Levels.{IsUpTo, IsLevel}
use Rattle.agv_layout.proofs.distances.distances_to.Given as goal

abbrev pub decreases-loop-alloc : goal.decreases-loop-alloc
decreases-loop-alloc l = (set.len (set.from_list {R = name_cmp} l.nodes.keys) - btree_map_len l.distances) + vec_len l.level

abbrev pub invariant-loop-alloc : goal.invariant-loop-alloc
invariant-loop-alloc l =
    IsUpTo (Joins l.edges) l.fn.goal l.hops (tree.get name_cmp l.distances)
    × IsLevel (Joins l.edges) l.fn.goal l.hops (tree.get name_cmp l.distances) (is_among l.level.items)
    × ((v : Name) (k : ℕ) → tree.get name_cmp l.distances v ≡ Some k → contains name_cmp l.nodes v ≡ true)
    × (l.hops + vec_len l.level ≤ btree_map_len l.distances)
    × (btree_map_len l.distances ≤ set.len (set.from_list {R = name_cmp} l.nodes.keys))
    × tree.IsOrdered name_cmp l.distances
