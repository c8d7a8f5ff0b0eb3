use Rattle.agv_layout.proofs.Uniques.{as_many_hops}
use Rattle.agv_layout.proofs.laws.has_as_many_hops.Goals as goal

pub returns : goal.returns
returns c = as_many_hops
