-- The rows of vehicles that are cached beside the tables.
use Rattle.std.specs.Prelude.{◌≡◌, Some}
use Rattle.std.specs.FinMap as finite
use Rattle.agv_header.specs.Key.{key_cmp}
use Rattle.agv_header.specs.declared.key.VehicleKey.{VehicleKey}
use Rattle.agv_world_core.specs.Maps.{Maps}
use Rattle.agv_world_core.specs.declared.row.VehicleRow.{VehicleRow}

-- vehicles, each with its row
abbrev pub VehiclesOf : Type 0
VehiclesOf = finite.FinMap key_cmp VehicleRow

-- each cached row is that of its vehicle
abbrev pub AreVehicles : VehiclesOf → Maps → Type 0
AreVehicles vehicles maps = (key : VehicleKey) (vehicle : VehicleRow) → finite.get vehicles key ≡ Some vehicle → finite.get maps.vehicles key ≡ Some vehicle
