use Rattle.agv_store_known.proofs.KeptTrips.{one_more_without}
use Rattle.agv_store_known.proofs.kept_trips.put_no_trip.Goals as goal

pub returns : goal.returns
returns c maps none are = (are.0, one_more_without c.args.trips.now.without c.insert.new.self c.args.key maps c.in_ok-insert.ensures.updates.0 none are.1)
