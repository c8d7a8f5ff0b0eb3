use Rattle.agv_layout.proofs.RouteFound.{route_is_found}
use Rattle.agv_layout.proofs.laws.route_is_found.Goals as goal

pub returns : goal.returns
returns c = route_is_found
