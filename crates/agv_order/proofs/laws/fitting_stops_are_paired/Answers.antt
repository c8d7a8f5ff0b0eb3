use Rattle.agv_order.proofs.Stopping.{fitting_paired}
use Rattle.agv_order.proofs.laws.fitting_stops_are_paired.Goals as goal

pub returns : goal.returns
returns c = fitting_paired
