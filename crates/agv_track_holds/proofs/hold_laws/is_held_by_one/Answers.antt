use Rattle.agv_track_holds.proofs.Members.{needed_by_one}
use Rattle.agv_track_holds.proofs.hold_laws.is_held_by_one.Goals as goal

pub returns : goal.returns
returns c = needed_by_one
