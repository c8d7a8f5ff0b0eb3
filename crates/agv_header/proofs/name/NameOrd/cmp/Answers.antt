use Rattle.agv_header.proofs.name.NameOrd.cmp.Goals as goal

pub returns : goal.returns
returns c = cc
