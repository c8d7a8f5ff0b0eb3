use Rattle.agv_world_core.proofs.row_changes.Stays.{apart_by_less}
use Rattle.agv_world_core.proofs.change_laws.keeps_apart_by_less.Goals as goal

pub returns : goal.returns
returns c = apart_by_less
