use Rattle.agv_track.proofs.Judging.{final-stays}
use Rattle.agv_track.proofs.laws.keeps_final.Goals as goal

pub returns : goal.returns
returns c = final-stays
