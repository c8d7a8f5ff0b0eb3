use Rattle.std.proofs.Common.{sym, subst, ◌∙◌}
use Rattle.agv_world_core.specs.Changes.{change}
use Rattle.agv_world_core.specs.Maps.{Maps}
use Rattle.agv_store_known.specs.KeptTrips.{AreOpen}
use Rattle.agv_store_known.proofs.KeptTrips.{leg_forgotten, trips_stay}
use Rattle.agv_store_known.proofs.kept_trips.follow_open.Goals as goal

pub returns-in-Leg : goal.returns-in-Leg
returns-in-Leg c =
    subst (λ one. (maps : Maps) → AreOpen c.args.trips.now maps → AreOpen c.remove.new.self (change maps one)) (sym c.in-Leg.is)
    (leg_forgotten c.args.trips.now c.remove.new.self c.in-Leg.leg _ c.remove.ensures.updates.0)

pub returns-in-Trip : goal.returns-in-Trip
returns-in-Trip c =
    subst (λ one. (maps : Maps) → AreOpen c.args.trips.now maps → AreOpen c.put_row.new.trips (change maps one)) (sym c.in-Trip.is) c.put_row.ensures

pub returns-in_default-one : goal.returns-in_default-one
returns-in_default-one c = trips_stay c.args.trips.now c.args.one.now (sym c.is_of_layout.ensures ∙ c.if-is_of_layout.false) c.in_default.not-Leg c.in_default-one.not-Trip
