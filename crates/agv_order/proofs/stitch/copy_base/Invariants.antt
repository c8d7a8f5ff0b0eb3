use Rattle.std.proofs.Common.{◌≡◌, take}
use Rattle.std.specs.List.{filter}
use Rattle.agv_order.specs.Stitch.{is_released}
use Rattle.agv_order.proofs.stitch.copy_base.Given as goal

abbrev pub invariant-loop-node : goal.invariant-loop-node
invariant-loop-node l = l.base.items ≡ filter is_released (take l.node-index l.nodes)
