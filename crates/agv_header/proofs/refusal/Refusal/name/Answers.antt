use Rattle.agv_header.proofs.refusal.Refusal.name.Goals as goal

pub returns : goal.returns
returns c = cc
