use Rattle.std.proofs.Common.{◌≡◌, drop}
use Rattle.agv_order.specs.Plans.{stop_routes_to}
use Rattle.agv_order.proofs.StopRoutes.{after}
use Rattle.agv_order.proofs.plan.stop_routes_to.Given as goal

abbrev pub invariant-loop-stop : goal.invariant-loop-stop
invariant-loop-stop l =
    stop_routes_to l.layout l.jobs l.fn.start l.stops ≡ after l.stop_routes.items (stop_routes_to l.layout l.jobs l.at (drop l.stop-index l.stops))
