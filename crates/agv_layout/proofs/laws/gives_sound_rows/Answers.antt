use Rattle.agv_layout.proofs.Order.{rows_of_layout}
use Rattle.agv_layout.proofs.laws.gives_sound_rows.Goals as goal

pub returns : goal.returns
returns c = rows_of_layout
