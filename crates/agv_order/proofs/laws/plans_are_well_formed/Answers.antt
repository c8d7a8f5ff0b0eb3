use Rattle.agv_order.proofs.NewTrips.{planned_well}
use Rattle.agv_order.proofs.laws.plans_are_well_formed.Goals as goal

pub returns : goal.returns
returns c = planned_well
