use Rattle.agv_store_known.proofs.KeptTrips.{trip_taken, trip_written}
use Rattle.agv_store_known.proofs.kept_trips.take_out.Goals as goal

pub returns-in_default : goal.returns-in_default
returns-in_default c = trip_taken c.args.without.now c.args._order c.args.row.now c.in_default.is

pub returns : goal.returns
returns c = trip_written c.args.without.now c.remove.new.self c.args._order c.args.row.now c.in-Some.row c.in-Some.is c.remove.ensures.updates.0
