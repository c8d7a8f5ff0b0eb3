use Rattle.agv_world_core.proofs.row_changes.Followed.{shares_after}
use Rattle.agv_world_core.proofs.change_laws.keeps_apart_as_before.Goals as goal

pub returns : goal.returns
returns c = shares_after
