use Rattle.agv_track_holds.proofs.Members.{sheds_own}
use Rattle.agv_track_holds.proofs.hold_laws.frees_its_own.Goals as goal

pub returns : goal.returns
returns c = sheds_own
