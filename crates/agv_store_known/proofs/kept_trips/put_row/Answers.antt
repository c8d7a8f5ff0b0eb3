use Rattle.std.proofs.Common.{subst, sym, ◌∙◌}
use Rattle.agv_world_core.specs.Changes.{change}
use Rattle.agv_world_core.specs.declared.change.Change.TheVariants as row
use Rattle.agv_store_known.specs.KeptTrips.{AreOpen}
use Rattle.agv_store_known.proofs.KeptTrips.{trip_forgotten, trip_put}
use Rattle.agv_store_known.proofs.kept_trips.put_row.Goals as goal

pub returns-in_default : goal.returns-in_default
returns-in_default c = trip_forgotten c.args.trips.now c.remove.new.self c.args.order c.args.row.now c.remove.ensures.updates.0

pub returns-in_default-row : goal.returns-in_default-row
returns-in_default-row c = trip_forgotten c.args.trips.now c.remove.new.self c.args.order c.args.row.now c.remove.ensures.updates.0

pub returns-in-Ok : goal.returns-in-Ok
returns-in-Ok c maps =
    subst (λ its. AreOpen c.args.trips.now maps → AreOpen c.insert-kept.new.self (change maps (row.Trip c.args.order its))) (sym c.in-Some-row.is)
    (trip_put c.args.trips.now c.remove.new.self c.insert-kept.new.self c.args.order c.in-Some.trip c.in-Ok.trip c.in-Some-row.row (sym c.remove.ensures.value ∙ c.in-Some.is) c.in-Ok.ensures
    c.remove.ensures.updates.0 c.insert-kept.result c.insert-kept.ensures.updates c.insert-kept.ensures.err maps)

pub returns-in_default-with_row : goal.returns-in_default-with_row
returns-in_default-with_row c = trip_forgotten c.args.trips.now c.remove.new.self c.args.order c.args.row.now c.remove.ensures.updates.0
