use Rattle.agv_track_holds.proofs.Holders.{one_table}
use Rattle.agv_track_holds.proofs.hold_laws.is_one_table.Goals as goal

pub returns : goal.returns
returns c = one_table
