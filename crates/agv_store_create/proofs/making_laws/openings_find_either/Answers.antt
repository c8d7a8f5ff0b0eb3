use Rattle.agv_store_create.proofs.SchemasTold.{openings_find_either}
use Rattle.agv_store_create.proofs.making_laws.openings_find_either.Goals as goal

pub returns : goal.returns
returns c = openings_find_either
