use Rattle.agv_order.proofs.Driving.{goes_by_the_route, made_by_the_route, none_by_the_route, long_by_the_route, beyond_by_the_route}
use Rattle.agv_order.proofs.laws.drives_go_by_the_route.Goals as goal

pub returns-clause-goes : goal.returns-clause-goes
returns-clause-goes c = goes_by_the_route

pub returns-clause-made : goal.returns-clause-made
returns-clause-made c = made_by_the_route

pub returns-clause-none : goal.returns-clause-none
returns-clause-none c = none_by_the_route

pub returns-clause-long : goal.returns-clause-long
returns-clause-long c = long_by_the_route

pub returns-clause-beyond : goal.returns-clause-beyond
returns-clause-beyond c = beyond_by_the_route
