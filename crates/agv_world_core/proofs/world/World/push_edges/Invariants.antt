use Rattle.std.proofs.Common.{◌≡◌, ◌++◌, map}
use Rattle.std.specs.FinMap as finite
use Rattle.agv_layout.specs.LayoutOf.{edge_row}
use Rattle.agv_world_core.proofs.world.World.push_edges.Given as goal

-- what is listed, and what is left, make all
abbrev pub invariant-loop-id : goal.invariant-loop-id
invariant-loop-id l = l.rows.items ++ map edge_row l.id-iterator ≡ l.fn.rows.items ++ map edge_row (finite.entries l.self.edges)
