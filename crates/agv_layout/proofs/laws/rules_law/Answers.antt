use Rattle.agv_layout.proofs.RowsBack.{rules_kept}
use Rattle.agv_layout.proofs.laws.rules_law.Goals as goal

pub returns : goal.returns
returns c = rules_kept
