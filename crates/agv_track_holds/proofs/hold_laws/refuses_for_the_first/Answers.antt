use Rattle.agv_track_holds.proofs.FirstHeld.{first_is_first}
use Rattle.agv_track_holds.proofs.hold_laws.refuses_for_the_first.Goals as goal

pub returns : goal.returns
returns c = first_is_first
