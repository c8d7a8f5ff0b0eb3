use Rattle.std.proofs.Common.{Some, ap, sym, ◌∙◌}
use Rattle.std.specs.Option.{option_map}
use Rattle.agv_order.specs.declared.stitch.Mark.{Mark}
use Rattle.agv_order.specs.Joins.{last_of}
use Rattle.agv_order.specs.Stitch.{mark_of}
use Rattle.agv_order.proofs.Stitching.{last_more, last_same}
use Rattle.agv_order.proofs.stitch.last_released.Goals.{then-node, else-node}
use Rattle.agv_order.proofs.stitch.last_released.Goals as goal

pub loop-node-preserved : goal.loop-node-preserved
loop-node-preserved c =
    let nodes = c.args.nodes.now in
    let i = c.loop-node.node-index in
    elim c.if-node.branch [
      | then-node w ↦
          let more = last_more nodes i c.node-item.result c.loop-node-test.true c.node-item.is w.if-node.true in
          w.last-is ∙ (ap (λ (mark : Mark). Some mark) w.mark_of.ensures ∙ sym (ap (option_map mark_of) more))
      | else-node w ↦
          let same = last_same nodes i c.node-item.result c.loop-node-test.true c.node-item.is w.if-node.false in
          w.last-is ∙ (c.loop-node.invariant ∙ sym (ap (λ base. option_map mark_of (last_of base)) same))
    ]
