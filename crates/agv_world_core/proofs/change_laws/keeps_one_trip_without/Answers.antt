use Rattle.agv_world_core.proofs.row_changes.Stays.{one_trip_without}
use Rattle.agv_world_core.proofs.change_laws.keeps_one_trip_without.Goals as goal

pub returns : goal.returns
returns c = one_trip_without
