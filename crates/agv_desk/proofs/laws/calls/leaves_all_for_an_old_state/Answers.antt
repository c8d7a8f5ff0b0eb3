use Rattle.agv_desk.proofs.outcomes.Unchanged.{leaves_all}
use Rattle.agv_desk.proofs.laws.calls.leaves_all_for_an_old_state.Goals as goal

pub returns : goal.returns
returns c = leaves_all
