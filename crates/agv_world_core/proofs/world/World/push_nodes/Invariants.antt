use Rattle.std.proofs.Common.{◌≡◌, ◌++◌, map}
use Rattle.agv_layout.specs.LayoutOf.{nodes_of}
use Rattle.agv_layout.specs.declared.row.LayoutRow.TheVariants as row
use Rattle.agv_world_core.specs.Told.{layout_of_tables}
use Rattle.agv_world_core.proofs.world.World.push_nodes.Given as goal

-- what is listed, and what is left, make all
abbrev pub invariant-loop-id : goal.invariant-loop-id
invariant-loop-id l = l.rows.items ++ map (λ id. row.Node id) l.id-iterator ≡ l.fn.rows.items ++ map (λ id. row.Node id) (nodes_of (layout_of_tables l.self))
