use Rattle.agv_layout.proofs.draft.is_no_loop.Goals as goal

pub returns : goal.returns
returns c = c.ne.ensures
