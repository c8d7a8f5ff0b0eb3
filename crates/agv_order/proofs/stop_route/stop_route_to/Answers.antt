use Rattle.std.proofs.Common.{ap, sym}
use Rattle.std.specs.Option.{option_and_then}
use Rattle.agv_order.specs.Plans.{stop_route_for, stop_route_to}
use Rattle.agv_order.proofs.stop_route.stop_route_to.Goals as goal

pub returns-in-Some-clause-ok : goal.returns-in-Some-clause-ok
unfolding stop_route_to
returns-in-Some-clause-ok c = rw (sym c.in-Some.ensures) c.stop_route_for.ensures.ok

pub returns-in-Some-clause-no_walk : goal.returns-in-Some-clause-no_walk
unfolding stop_route_to
returns-in-Some-clause-no_walk c = rw (sym c.in-Some.ensures) c.stop_route_for.ensures.no_walk

pub returns-in-None-clause-no_walk : goal.returns-in-None-clause-no_walk
unfolding stop_route_to
returns-in-None-clause-no_walk c = λ _. ap (option_and_then (stop_route_for c.args.layout.now c.args.at c.args.stop)) (sym c.in-None.ensures)
