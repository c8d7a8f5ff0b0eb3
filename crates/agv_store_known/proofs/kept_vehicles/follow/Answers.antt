use Rattle.std.proofs.Common.{subst, sym}
use Rattle.agv_world_core.specs.Changes.{change}
use Rattle.agv_world_core.specs.Maps.{Maps}
use Rattle.agv_store_known.specs.KeptVehicles.{AreVehicles}
use Rattle.agv_store_known.proofs.kept_vehicles.follow.Goals as goal

pub returns-in-Vehicle : goal.returns-in-Vehicle
returns-in-Vehicle c =
    subst (λ one. (maps : Maps) → AreVehicles c.args.vehicles.now maps → AreVehicles c.put_row.new.vehicles (change maps one)) (sym c.in-Vehicle.is) c.put_row.ensures
