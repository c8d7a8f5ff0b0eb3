use Rattle.std.proofs.Common.{◌≡◌, Some}
use Rattle.std.specs.FinMap as map
use Rattle.std.specs.List.{AllByRecursion}
use Rattle.agv_header.specs.declared.key.VehicleKey.{VehicleKey}
use Rattle.agv_world_core.specs.Lawful.{IsKey}
use Rattle.agv_world_core.proofs.tables.by_vehicle.ByVehicle.keys_law.Given as goal

-- where what is left has it, all has
abbrev pub invariant-loop-key : goal.invariant-loop-key
invariant-loop-key g l = AllByRecursion (λ (e : VehicleKey × g.row.V.Denot). IsKey e.0) l.key-iterator → (key : VehicleKey) (row : g.row.V.Denot) → map.get l.self key ≡ Some row → IsKey key
