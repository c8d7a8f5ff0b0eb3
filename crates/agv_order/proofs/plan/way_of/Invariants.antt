use Rattle.std.proofs.Common.{◌≡◌, take}
use Rattle.agv_order.specs.Plans.{way_of}
use Rattle.agv_order.proofs.plan.way_of.Given as goal

abbrev pub invariant-loop-stop_route : goal.invariant-loop-stop_route
invariant-loop-stop_route l = l.way.items ≡ way_of (take l.stop_route-index l.stop_routes)
