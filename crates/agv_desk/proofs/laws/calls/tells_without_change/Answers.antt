use Rattle.agv_desk.proofs.outcomes.Unchanged.{tells}
use Rattle.agv_desk.proofs.laws.calls.tells_without_change.Goals as goal

pub returns : goal.returns
returns c = tells
