use Rattle.agv_world_core.proofs.row_changes.ChangeRuns.{changed-append}
use Rattle.agv_world_core.proofs.change_laws.changes_in_turn.Goals as goal

pub returns : goal.returns
returns c = changed-append
