use Rattle.agv_desk.proofs.histories.LawfulLists.{once_at_most}
use Rattle.agv_desk.proofs.laws.histories.carries_out_once.Goals as goal

pub returns : goal.returns
returns c = λ seats is_seats world calls kind order job.
    once_at_most c.advances.ensures c.pairs_as_said.ensures seats (c.keeps_lawful.ensures seats is_seats) kind order job world calls
