use Rattle.std.proofs.Common.{inr}
use Rattle.agv_app_run.proofs.desks.replay.Goals as goal

pub returns : goal.returns
returns g c = λ new. inr (c.in_ok-desk.desk, c.in_ok-desk.ensures.new new, c.replay_on.ensures)
