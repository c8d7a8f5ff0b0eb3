use Rattle.agv_desk.proofs.histories.RepeatedLists.{repeated_moves, repeated_holds, repeated_old}
use Rattle.agv_desk.proofs.laws.histories.repeats_quietly.Goals as goal

pub returns-clause-moves : goal.returns-clause-moves
returns-clause-moves c = λ seats is_seats.
    repeated_moves c.advances.ensures c.pairs_as_said.ensures c.holds_are_footprints.ensures seats (c.keeps_lawful.ensures seats is_seats)

pub returns-clause-holds : goal.returns-clause-holds
returns-clause-holds c = λ seats is_seats.
    repeated_holds c.advances.ensures c.pairs_as_said.ensures c.holds_are_footprints.ensures seats (c.keeps_lawful.ensures seats is_seats)

pub returns-clause-without_resync : goal.returns-clause-without_resync
returns-clause-without_resync c = λ seats is_seats.
    repeated_old c.advances.ensures c.pairs_as_said.ensures c.holds_are_footprints.ensures seats (c.keeps_lawful.ensures seats is_seats)
