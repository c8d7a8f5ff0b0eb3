use Rattle.agv_world_lawful.proofs.vehicle_tests.KeepsTold.{keeps}
use Rattle.agv_world_lawful.proofs.laws.tests_trips.Goals as goal

pub returns : goal.returns
returns c tables = keeps tables
