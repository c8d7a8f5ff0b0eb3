use Rattle.agv_track_holds.proofs.Claims.{claims_alike}
use Rattle.agv_track_holds.proofs.hold_laws.gives_once.Goals as goal

pub returns : goal.returns
returns c = claims_alike
