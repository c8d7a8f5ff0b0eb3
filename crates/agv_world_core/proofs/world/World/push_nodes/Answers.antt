use Rattle.std.proofs.Common.{◌++◌, map, ap, ◌∙◌}
use Rattle.agv_layout.specs.declared.row.LayoutRow.TheVariants as row
use Rattle.agv_world_core.specs.Told.{layout_of_tables}
use Rattle.agv_world_core.proofs.told_worlds.NodesOf.{nodes-shown}
use Rattle.agv_world_core.proofs.world.World.push_nodes.Goals as goal

pub loop-id-init : goal.loop-id-init
loop-id-init c =
    ap (λ ids. c.args.rows.now.items ++ map row.Node ids)
    (c.into_iter-id-iterator.ensures.into_iter_gives ∙ nodes-shown (layout_of_tables c.args.self.now) c.iter-id-items.result c.iter-id-items.ensures.ordered c.iter-id-items.ensures.all)
