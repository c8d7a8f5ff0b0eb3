use Rattle.agv_track.proofs.Judging.{judged-well-formed}
use Rattle.agv_track.proofs.laws.stays_well_formed.Goals as goal

pub returns : goal.returns
returns c = judged-well-formed
