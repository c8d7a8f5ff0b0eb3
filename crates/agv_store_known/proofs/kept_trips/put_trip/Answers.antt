use Rattle.std.proofs.Common.{refl}
use Rattle.agv_header.specs.Name.{name_cmp}
use Rattle.agv_world_core.proofs.lists.Orders.{names_apart}
use Rattle.agv_store_known.specs.KeptTrips.{IsTripOf}
use Rattle.agv_store_known.proofs.KeptMaps.{one_more_entry, same_entries}
use Rattle.agv_store_known.proofs.kept_trips.put_trip.Goals as goal

pub returns-in_err-insert : goal.returns-in_err-insert
returns-in_err-insert c maps has are = (same_entries name_cmp names_apart (IsTripOf maps) c.args.trips.now.by_order c.insert.new.self c.in_err-insert.ensures.err are.0, are.1)

pub returns : goal.returns
returns c maps has are = (one_more_entry name_cmp names_apart (IsTripOf maps) c.args.trips.now.by_order c.insert.new.self c.args.trip.order c.args.trip c.in_ok-insert.ensures.updates.0 (refl, has) are.0, are.1)
