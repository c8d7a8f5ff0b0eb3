use Rattle.agv_order.proofs.Stopping.{stops_twice}
use Rattle.agv_order.proofs.laws.stops_twice.Goals as goal

pub returns : goal.returns
returns c = stops_twice
