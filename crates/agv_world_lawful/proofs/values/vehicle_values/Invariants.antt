use Rattle.std.proofs.Common.{◌≡◌, Some}
use Rattle.std.specs.FinMap as map
use Rattle.std.specs.List.{AllByRecursion}
use Rattle.agv_header.specs.declared.key.VehicleKey.{VehicleKey}
use Rattle.agv_world_lawful.specs.Values.{IsVehicleValue}
use Rattle.agv_world_core.specs.declared.row.VehicleRow.{VehicleRow}
use Rattle.agv_world_lawful.proofs.values.vehicle_values.Given as goal

-- where what is left has it, all has
abbrev pub invariant-loop-row : goal.invariant-loop-row
invariant-loop-row l = AllByRecursion (λ (e : VehicleKey × VehicleRow). IsVehicleValue e.1) l.row-iterator → (key : VehicleKey) (row : VehicleRow) → map.get l.world.vehicles key ≡ Some row → IsVehicleValue row
