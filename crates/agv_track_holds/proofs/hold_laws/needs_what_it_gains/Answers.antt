use Rattle.agv_track_holds.proofs.Holders.{gains_are_first, gains_are_all}
use Rattle.agv_track_holds.proofs.hold_laws.needs_what_it_gains.Goals as goal

pub returns : goal.returns
returns c = λ table footprint_of key next held. (gains_are_first table footprint_of key next held, gains_are_all table footprint_of key next held)
