use Rattle.agv_desk.proofs.outcomes.RefusedCalls.{refused_so}
use Rattle.agv_desk.proofs.laws.calls.refuses_as_calls_are_refused.Goals as goal

pub returns : goal.returns
returns c = refused_so
