use Rattle.agv_world_lawful.proofs.vehicle_tests.LaidTests.{laid, laid_again}
use Rattle.agv_world_lawful.proofs.laws.tests_the_layout.Goals as goal

pub returns : goal.returns
returns c tables values = (laid tables values, laid_again tables)
