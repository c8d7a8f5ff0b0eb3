use Rattle.std.proofs.Common.{subst, sym}
use Rattle.agv_store_known.specs.KeptVehicles.{AreVehicles}
use Rattle.agv_store_known.proofs.KeptVehicles.{none_kept}
use Rattle.agv_store_known.proofs.kept_vehicles.none.Goals as goal

pub returns : goal.returns
returns c maps = subst (λ kept. AreVehicles kept maps) (sym c.new.ensures) (none_kept maps)
