use Rattle.agv_store_create.proofs.DeskStands.{made_desks_stand}
use Rattle.agv_store_create.proofs.making_laws.made_desks_stand.Goals as goal

pub returns : goal.returns
returns c = made_desks_stand
