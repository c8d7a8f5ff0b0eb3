use Rattle.agv_track_holds.proofs.Claims.{get-claimed}
use Rattle.agv_track_holds.proofs.hold_laws.gives_each.Goals as goal

pub returns : goal.returns
returns c = get-claimed
