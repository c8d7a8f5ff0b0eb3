use Rattle.agv_world_core.proofs.row_changes.Followed.{once_after}
use Rattle.agv_world_core.proofs.change_laws.keeps_one_trip_as_before.Goals as goal

pub returns : goal.returns
returns c = once_after
