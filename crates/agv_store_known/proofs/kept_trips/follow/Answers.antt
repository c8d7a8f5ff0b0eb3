use Rattle.agv_store_known.proofs.kept_trips.follow.Goals as goal

pub returns : goal.returns
returns c maps are = (c.follow_open.ensures maps are.0, c.follow_without.ensures maps are.1)
