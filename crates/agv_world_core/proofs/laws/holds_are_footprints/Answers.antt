use Rattle.agv_world_core.proofs.world_rows.Holders.{holder_is}
use Rattle.agv_world_core.proofs.laws.holds_are_footprints.Goals as goal

pub returns : goal.returns
returns c = holder_is
