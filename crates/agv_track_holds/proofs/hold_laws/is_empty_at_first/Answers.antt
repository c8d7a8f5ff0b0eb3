use Rattle.agv_track_holds.proofs.Holders.{none_held_at_first}
use Rattle.agv_track_holds.proofs.hold_laws.is_empty_at_first.Goals as goal

pub returns : goal.returns
returns c = none_held_at_first
