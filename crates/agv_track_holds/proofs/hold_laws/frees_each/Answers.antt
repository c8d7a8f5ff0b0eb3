use Rattle.agv_track_holds.proofs.Sheds.{get-shed}
use Rattle.agv_track_holds.proofs.hold_laws.frees_each.Goals as goal

pub returns : goal.returns
returns c = get-shed
