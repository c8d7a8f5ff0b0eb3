use Rattle.std.proofs.Common.{◌≡◌, ◌++◌, take}
use Rattle.agv_order.proofs.stitch.with_nodes.Given as goal

abbrev pub invariant-loop-node : goal.invariant-loop-node
invariant-loop-node l = l.all.items ≡ l.fn.base.items ++ take l.node-index l.nodes
