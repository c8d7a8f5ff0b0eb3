use Rattle.std.proofs.Common.{◌≡◌, ◌++◌, take, drop, length}
use Rattle.agv_order.specs.Plans.{way_of, acts_along}
use Rattle.agv_order.proofs.plan.acts_along.Given as goal

abbrev pub invariant-loop-stop_route : goal.invariant-loop-stop_route
invariant-loop-stop_route l = record {
  place : l.place ≡ length (way_of (take l.stop_route-index l.stop_routes));
  acts : acts_along 0 l.stop_routes ≡ l.acts.items ++ acts_along l.place (drop l.stop_route-index l.stop_routes);
}
