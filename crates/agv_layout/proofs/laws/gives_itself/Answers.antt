use Rattle.agv_layout.proofs.RowsBack.{given_back}
use Rattle.agv_layout.proofs.laws.gives_itself.Goals as goal

pub returns : goal.returns
returns c = given_back
