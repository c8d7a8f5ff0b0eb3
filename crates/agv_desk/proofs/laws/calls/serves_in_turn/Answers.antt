use Rattle.agv_desk.proofs.lists.InTurn.{world_in_turn, answers_in_turn, moves_in_turn}
use Rattle.agv_desk.proofs.laws.calls.serves_in_turn.Goals as goal

pub returns-clause-world : goal.returns-clause-world
returns-clause-world c = world_in_turn

pub returns-clause-answers : goal.returns-clause-answers
returns-clause-answers c = answers_in_turn

pub returns-clause-moves : goal.returns-clause-moves
returns-clause-moves c = moves_in_turn
