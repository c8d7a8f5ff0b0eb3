use Rattle.agv_desk.proofs.stock.StockInvariantWhole.{acts_find}
use Rattle.agv_desk.proofs.laws.stock.acts_find_their_loads.Goals as goal

pub returns : goal.returns
returns c = acts_find c.pairs_as_said.ensures c.advances.ensures
