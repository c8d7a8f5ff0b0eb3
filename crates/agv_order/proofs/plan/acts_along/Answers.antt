use Rattle.std.proofs.Common.{arith}
use Rattle.agv_order.proofs.StopRoutes.{place_within}
use Rattle.agv_order.proofs.plan.acts_along.Goals as goal

pub overflow_cast-place : goal.overflow_cast-place
overflow_cast-place c =
    let within = place_within c.args.stop_routes.now c.loop-stop_route.stop_route-index c.stop_route-item.result c.loop-stop_route-test.true c.stop_route-item.is in
    omega (arith, within, c.len.ensures, c.requires)

pub overflow_add-place : goal.overflow_add-place
overflow_add-place c =
    let within = place_within c.args.stop_routes.now c.loop-stop_route.stop_route-index c.stop_route-item.result c.loop-stop_route-test.true c.stop_route-item.is in
    omega (arith, within, c.len.ensures, c.requires, c.loop-stop_route.invariant.place)
