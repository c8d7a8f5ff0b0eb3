use Rattle.agv_track_holds.proofs.FirstHeld.{none_is_open}
use Rattle.agv_track_holds.proofs.hold_laws.refuses_nothing_open.Goals as goal

pub returns : goal.returns
returns c = none_is_open
