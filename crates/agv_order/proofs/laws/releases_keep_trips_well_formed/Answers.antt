use Rattle.agv_order.proofs.Releases.{released_well}
use Rattle.agv_order.proofs.laws.releases_keep_trips_well_formed.Goals as goal

pub returns : goal.returns
returns c = released_well
