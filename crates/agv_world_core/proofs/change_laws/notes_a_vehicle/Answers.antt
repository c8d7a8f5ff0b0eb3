use Rattle.agv_world_core.proofs.row_changes.Followed.{noted}
use Rattle.agv_world_core.proofs.change_laws.notes_a_vehicle.Goals as goal

pub returns : goal.returns
returns c = noted
