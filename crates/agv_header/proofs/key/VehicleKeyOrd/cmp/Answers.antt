use Rattle.agv_header.proofs.key.VehicleKeyOrd.cmp.Goals as goal

pub returns : goal.returns
returns c = cc
