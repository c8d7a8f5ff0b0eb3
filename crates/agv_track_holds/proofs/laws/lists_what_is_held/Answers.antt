use Rattle.agv_track_holds.proofs.HeldLists.{footprint-held}
use Rattle.agv_track_holds.proofs.laws.lists_what_is_held.Goals as goal

pub returns : goal.returns
returns c = footprint-held
