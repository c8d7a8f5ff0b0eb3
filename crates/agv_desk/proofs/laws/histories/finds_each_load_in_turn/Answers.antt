use Rattle.agv_desk.proofs.histories.FoundInTurn.{each_drops, each_finds, found_in_turn}
use Rattle.agv_desk.proofs.laws.histories.finds_each_load_in_turn.Goals as goal

pub returns-clause-calls : goal.returns-clause-calls
returns-clause-calls c = λ seats is_seats. each_finds seats (c.finds_each_load.ensures seats) (c.stays_lawful.ensures seats is_seats)

pub returns-clause-drops : goal.returns-clause-drops
returns-clause-drops c = λ seats is_seats. each_drops seats (c.finds_each_load.ensures seats) (c.stays_lawful.ensures seats is_seats)

pub returns-clause-moves : goal.returns-clause-moves
returns-clause-moves c = λ seats is_seats. found_in_turn seats (c.finds_each_load.ensures seats) (c.stays_lawful.ensures seats is_seats)
