use Rattle.agv_store_create.proofs.DeskStands.{trees_tell_tables}
use Rattle.agv_store_create.proofs.making_laws.trees_tell_tables.Goals as goal

pub returns : goal.returns
returns c = trees_tell_tables
