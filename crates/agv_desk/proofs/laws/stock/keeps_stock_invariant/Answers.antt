use Rattle.agv_desk.proofs.stock.StockInvariantWhole.{stock_joined}
use Rattle.agv_desk.proofs.laws.stock.keeps_stock_invariant.Goals as goal

pub returns : goal.returns
returns c = stock_joined c.gives_itself.ensures c.pairs_as_said.ensures c.fitting_stops_are_paired.ensures c.plans_go_by_routes.ensures.goes c.drives_go_by_the_route.ensures.goes c.advances.ensures
