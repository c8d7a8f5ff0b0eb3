use Rattle.agv_desk.proofs.stocktakes.StockLaws.{stock_taken}
use Rattle.agv_desk.proofs.laws.stocktakes.what_was_counted_is_there.Goals as goal

pub returns : goal.returns
returns c = stock_taken
