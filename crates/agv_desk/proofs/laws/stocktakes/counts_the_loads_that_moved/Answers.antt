use Rattle.agv_desk.proofs.stocktakes.StockMoved.{number_told}
use Rattle.agv_desk.proofs.laws.stocktakes.counts_the_loads_that_moved.Goals as goal

pub returns : goal.returns
returns c = number_told
