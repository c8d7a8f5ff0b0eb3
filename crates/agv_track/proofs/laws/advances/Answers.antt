use Rattle.agv_track.proofs.Judging.{judged-advances}
use Rattle.agv_track.proofs.laws.advances.Goals as goal

pub returns : goal.returns
returns c = judged-advances
