use Rattle.agv_world_core.proofs.row_changes.Followed.{followed}
use Rattle.agv_world_core.proofs.change_laws.follows_a_vehicle.Goals as goal

pub returns : goal.returns
returns c = followed
