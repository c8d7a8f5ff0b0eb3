use Rattle.agv_world_core.proofs.row_changes.Stays.{one_trip_further}
use Rattle.agv_world_core.proofs.change_laws.keeps_one_trip_further.Goals as goal

pub returns : goal.returns
returns c = one_trip_further
