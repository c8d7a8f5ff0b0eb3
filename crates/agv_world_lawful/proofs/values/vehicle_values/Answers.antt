use Rattle.std.proofs.Common.{sym, subst, ◌∙◌}
use Rattle.std.specs.List.{AllByRecursion}
use Rattle.agv_header.specs.declared.key.VehicleKey.{VehicleKey}
use Rattle.agv_world_lawful.specs.Values.{IsVehicleValue}
use Rattle.agv_world_core.specs.declared.row.VehicleRow.{VehicleRow}
use Rattle.agv_header.specs.KeyOrder.{key_cmp-IsAntisymmetric}
use Rattle.agv_world_core.proofs.lists.EachEntry.{entry-has}
use Rattle.agv_world_lawful.proofs.values.vehicle_values.Goals as goal

pub loop-row-init : goal.loop-row-init
loop-row-init c each = entry-has key_cmp-IsAntisymmetric (λ (e : VehicleKey × VehicleRow). IsVehicleValue e.1) c.args.world.now.vehicles (subst (AllByRecursion (λ (e : VehicleKey × VehicleRow). IsVehicleValue e.1)) (c.into_iter-row-iterator.ensures.into_iter_gives ∙ c.iter-row-items.ensures) each)

pub loop-row-preserved : goal.loop-row-preserved
loop-row-preserved c more = c.loop-row.invariant (subst (AllByRecursion (λ (e : VehicleKey × VehicleRow). IsVehicleValue e.1)) (sym c.in-Some.ensures.steps) (c.row_values.ensures, more))

pub returns : goal.returns
returns c = c.loop-row.invariant (subst (AllByRecursion (λ (e : VehicleKey × VehicleRow). IsVehicleValue e.1)) (sym c.in-None.ensures.steps.0) tt)
