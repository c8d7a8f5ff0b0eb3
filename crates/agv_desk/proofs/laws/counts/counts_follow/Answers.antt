use Rattle.agv_desk.proofs.outcomes.CountSteps.{counts_follow}
use Rattle.agv_desk.proofs.laws.counts.counts_follow.Goals as goal

pub returns : goal.returns
returns c = λ seats world at call what lawful. counts_follow world seats at call what lawful
