use Rattle.agv_world_lawful.proofs.vehicle_tests.ApartTests.{apart, apart_again}
use Rattle.agv_world_lawful.proofs.laws.tests_footprints.Goals as goal

pub returns : goal.returns
returns c tables = (apart tables, apart_again tables)
