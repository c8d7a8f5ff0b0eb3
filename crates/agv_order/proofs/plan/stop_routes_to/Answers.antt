use Rattle.std.proofs.Common.{◌+◌, ◌∷◌, drop, ap, sym, ◌∙◌}
use Rattle.std.proofs.lemmas.List.{at_drop_more}
use Rattle.agv_order.specs.Plans.{stop_routes_to}
use Rattle.agv_order.proofs.StopRoutes.{after, after-more}
use Rattle.agv_order.proofs.plan.stop_routes_to.Goals as goal

pub loop-stop-preserved : goal.loop-stop-preserved
loop-stop-preserved c =
    let layout = c.args.layout.now in
    let jobs = c.args.jobs.now in
    let stops = c.args.stops.now in
    let stop_routes = c.loop-stop.stop_routes.items in
    let at = c.loop-stop.at in
    let i = c.loop-stop.stop-index in
    let stop = c.stop-item.result in
    let stop_route = c.in_ok-stop_route.stop_route in
    c.loop-stop.invariant
    ∙ at_drop_more (λ rest. after stop_routes (stop_routes_to layout jobs at rest)) stops i stop c.loop-stop-test.true
    ∙ ap (λ one. after stop_routes (stop_routes_to layout jobs at (one ∷ drop (i + 1) stops))) (sym c.stop-item.is)
    ∙ after-more layout jobs stop_routes at stop (drop (i + 1) stops) stop_route c.in_ok-stop_route.ensures.ok
    ∙ ap (λ more. after more (stop_routes_to layout jobs stop_route.goal (drop (i + 1) stops))) (sym c.in_ok-push.ensures.items)
