use Rattle.agv_app_run.proofs.run.replay_in_memory.Goals as goal

pub returns : goal.returns
returns g c = c.replay_over.ensures (c.stores_in_memory_are_clean.ensures, c.open_in_memory.ensures.empty)
