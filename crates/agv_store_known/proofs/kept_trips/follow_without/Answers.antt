use Rattle.std.proofs.Common.{subst, sym}
use Rattle.agv_world_core.specs.Changes.{change}
use Rattle.agv_world_core.specs.Maps.{Maps}
use Rattle.agv_store_known.specs.KeptTrips.{HaveNoTrip}
use Rattle.agv_store_known.proofs.KeptTrips.{without_stay}
use Rattle.agv_store_known.proofs.kept_trips.follow_without.Goals as goal

pub returns-in-Trip : goal.returns-in-Trip
returns-in-Trip c =
    subst (λ one. (maps : Maps) → HaveNoTrip c.args.without.now maps → HaveNoTrip c.take_out.new.without (change maps one)) (sym c.in-Trip.is) c.take_out.ensures

pub returns-in_default : goal.returns-in_default
returns-in_default c = without_stay c.args.without.now c.args.one.now c.in_default.not-Trip
