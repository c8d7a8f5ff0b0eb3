use Rattle.agv_track_holds.proofs.HeldLists.{footprint-distinct}
use Rattle.agv_track_holds.proofs.laws.lists_each_once.Goals as goal

pub returns : goal.returns
returns c = footprint-distinct
