use Rattle.agv_app_run.proofs.run.carry_out.Goals as goal

pub returns-in-Replay : goal.returns-in-Replay
returns-in-Replay c c' = rw c'.in-Replay.is c'.replay_by.ensures
