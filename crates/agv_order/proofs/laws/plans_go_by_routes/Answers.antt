use Rattle.agv_order.proofs.Touring.{goes_by_routes, none_goes}
use Rattle.agv_order.proofs.laws.plans_go_by_routes.Goals as goal

pub returns-clause-goes : goal.returns-clause-goes
returns-clause-goes c = goes_by_routes

pub returns-clause-none : goal.returns-clause-none
returns-clause-none c = none_goes
