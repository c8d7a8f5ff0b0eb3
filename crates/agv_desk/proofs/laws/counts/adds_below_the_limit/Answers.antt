use Rattle.agv_desk.proofs.outcomes.CountSteps.{adds_below}
use Rattle.agv_desk.proofs.laws.counts.adds_below_the_limit.Goals as goal

pub returns : goal.returns
returns c = λ seats world at call what more. adds_below world seats at call what more
