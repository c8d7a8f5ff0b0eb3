use Rattle.std.proofs.Common.{refl}
use Rattle.agv_count_exports.proofs.CarriersOfWorlds.{carrier-of_all}
use Rattle.agv_count_exports.specs.Exports.{vehicles_told}
use Rattle.agv_count_exports.proofs.carriers.gives_the_carrier.Goals as goal

pub returns : goal.returns
returns c world job = carrier-of_all job (vehicles_told world) _ refl world refl
