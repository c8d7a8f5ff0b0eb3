use Rattle.std.proofs.Common.{◌∙◌, ap}
use Rattle.std.specs.Option.{option_and_then}
use Rattle.agv_count_exports.specs.Exports.{as_carrier}
use Rattle.agv_count_exports.proofs.CarriersOfWorlds.{carrier-of_all}
use Rattle.agv_count_exports.proofs.carriers.carrier.Goals as goal

pub returns-in_err-vehicle-clause-of_all : goal.returns-in_err-vehicle-clause-of_all
returns-in_err-vehicle-clause-of_all c =
    carrier-of_all c.args.job c.args.vehicles.now c.from_residual.result (c.from_residual.ensures ∙ ap (option_and_then as_carrier) c.in_err-vehicle.ensures)

pub returns-clause-of_all : goal.returns-clause-of_all
returns-clause-of_all c =
    carrier-of_all c.args.job c.args.vehicles.now c.as_carrier.result (c.as_carrier.ensures ∙ ap (option_and_then as_carrier) c.in_ok-vehicle.ensures)
