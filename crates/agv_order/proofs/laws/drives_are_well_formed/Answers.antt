use Rattle.agv_order.proofs.Driving.{drive_well}
use Rattle.agv_order.proofs.laws.drives_are_well_formed.Goals as goal

pub returns : goal.returns
returns c = drive_well
