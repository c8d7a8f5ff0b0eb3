use Rattle.agv_desk.proofs.histories.LawfulLists.{stays_lawful}
use Rattle.agv_desk.proofs.laws.histories.stays_lawful.Goals as goal

pub returns : goal.returns
returns c = λ seats is_seats. stays_lawful c.advances.ensures c.pairs_as_said.ensures seats (c.keeps_lawful.ensures seats is_seats)
