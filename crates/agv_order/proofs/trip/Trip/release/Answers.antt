use Rattle.std.proofs.Common.{refl}
use Rattle.agv_order.proofs.trip.Trip.release.Goals as goal

pub returns-clause-released : goal.returns-clause-released
returns-clause-released c = refl
