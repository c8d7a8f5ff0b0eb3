use Rattle.agv_track_holds.proofs.Holders.{holders_move}
use Rattle.agv_track_holds.proofs.hold_laws.follows_a_vehicle.Goals as goal

pub returns : goal.returns
returns c = holders_move
