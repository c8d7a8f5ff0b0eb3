use Rattle.agv_order.proofs.WellFormedTests.{tests_well_formed}
use Rattle.agv_order.proofs.laws.tests_well_formed.Goals as goal

pub returns : goal.returns
returns c = tests_well_formed
