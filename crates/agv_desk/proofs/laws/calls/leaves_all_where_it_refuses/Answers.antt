use Rattle.agv_desk.proofs.outcomes.CausedMoves.{refused_leaves}
use Rattle.agv_desk.proofs.laws.calls.leaves_all_where_it_refuses.Goals as goal

-- src/laws/calls.rt:60:1
pub returns : goal.returns
returns c = λ seats world at call refused. refused_leaves world seats at call refused
