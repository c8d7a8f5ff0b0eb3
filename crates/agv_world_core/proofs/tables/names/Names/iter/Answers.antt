use Rattle.agv_world_core.proofs.tables.names.Names.iter.Goals as goal

pub returns : goal.returns
returns c = rw c.iter.ensures.rest record { ordered = c.iter.ensures.ordered; all = c.self.view_is }
