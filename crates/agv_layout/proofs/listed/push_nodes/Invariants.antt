use Rattle.std.proofs.Common.{◌≡◌, ◌++◌, map}
use Rattle.agv_layout.specs.declared.row.LayoutRow.TheVariants as row
use Rattle.agv_layout.proofs.listed.push_nodes.Given as goal

abbrev pub invariant-loop-id : goal.invariant-loop-id
invariant-loop-id l = l.rows.items ++ map (λ id. row.Node id) l.id-iterator ≡ l.fn.rows.items ++ map (λ id. row.Node id) l.nodes.keys
