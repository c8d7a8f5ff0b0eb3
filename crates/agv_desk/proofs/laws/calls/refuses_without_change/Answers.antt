use Rattle.std.proofs.Common.{refl}
use Rattle.agv_desk.specs.Outcomes.{decided}
use Rattle.agv_desk.proofs.laws.calls.refuses_without_change.Goals as goal

pub returns-clause-rows : goal.returns-clause-rows
unfolding decided
returns-clause-rows c = λ why. refl
