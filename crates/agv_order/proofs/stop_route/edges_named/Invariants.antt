use Rattle.std.proofs.Common.{◌≡◌, take}
use Rattle.agv_order.specs.Plans.{edges_named}
use Rattle.agv_order.proofs.stop_route.edges_named.Given as goal

abbrev pub invariant-loop-id : goal.invariant-loop-id
invariant-loop-id l = l.edges.items ≡ edges_named l.layout (take l.id-index l.ids)
