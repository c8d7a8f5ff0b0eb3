use Rattle.std.proofs.Common.{◌≡◌, take}
use Rattle.std.specs.List.{filter}
use Rattle.std.specs.Option.{option_map}
use Rattle.agv_order.specs.Joins.{last_of}
use Rattle.agv_order.specs.Stitch.{is_released, mark_of}
use Rattle.agv_order.proofs.stitch.last_released.Given as goal

abbrev pub invariant-loop-node : goal.invariant-loop-node
invariant-loop-node l = l.last ≡ option_map mark_of (last_of (filter is_released (take l.node-index l.nodes)))
