use Rattle.agv_world_core.proofs.row_changes.Written.{use_written}
use Rattle.agv_world_core.proofs.change_laws.uses_a_name.Goals as goal

pub returns : goal.returns
returns c = use_written
