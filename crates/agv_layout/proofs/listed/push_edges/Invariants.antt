use Rattle.std.proofs.Common.{◌≡◌, ◌++◌, map}
use Rattle.agv_layout.specs.LayoutOf.{edge_row}
use Rattle.agv_layout.proofs.listed.push_edges.Given as goal

abbrev pub invariant-loop-id : goal.invariant-loop-id
invariant-loop-id l = l.rows.items ++ map edge_row l.id-iterator ≡ l.fn.rows.items ++ map edge_row l.edges.entries
