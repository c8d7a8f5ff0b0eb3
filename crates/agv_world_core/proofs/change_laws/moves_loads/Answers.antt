use Rattle.agv_world_core.proofs.row_changes.Written.{loads_written}
use Rattle.agv_world_core.proofs.change_laws.moves_loads.Goals as goal

pub returns : goal.returns
returns c = loads_written
