use Rattle.agv_world_core.proofs.row_changes.Stays.{apart_by_claim}
use Rattle.agv_world_core.proofs.change_laws.keeps_apart_by_claim.Goals as goal

pub returns : goal.returns
returns c = apart_by_claim
