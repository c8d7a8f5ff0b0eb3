use Rattle.agv_desk.proofs.outcomes.CausedMoves.{moves_caused}
use Rattle.agv_desk.proofs.laws.calls.moves_for_its_cause.Goals as goal

-- src/laws/calls.rt:68:1
pub returns : goal.returns
returns c = λ seats world at call. moves_caused world seats at call
