use Rattle.agv_desk.proofs.outcomes.RefusedCalls.{served_so}
use Rattle.agv_desk.proofs.laws.calls.serves_what_was_decided.Goals as goal

pub returns : goal.returns
returns c = served_so
