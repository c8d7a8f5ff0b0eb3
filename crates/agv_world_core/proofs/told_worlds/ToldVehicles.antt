-- A vehicle of the world that the tables tell is its row with its trip.
use Rattle.std.proofs.Common.{◌≡◌, Option, Some, None, option_map, refl, sym, ap, ◌∙◌}
use Rattle.std.specs.FinMap.{get}
use Rattle.agv_header.specs.declared.key.VehicleKey.{VehicleKey}
use Rattle.agv_world_core.specs.ConsistentTrips.{IsVehicle}
use Rattle.agv_world_core.specs.Told.{vehicle_in, world_of}
use Rattle.agv_world_core.specs.Worlds.{Vehicle}
use Rattle.agv_world_core.specs.declared.row.VehicleRow.{VehicleRow}
use Rattle.agv_world_core.specs.declared.world.World.{World as Tables}
use Rattle.agv_world_core.proofs.lists.Entries.{no_more, same_Some}
use Rattle.agv_world_core.proofs.told_worlds.Telling.{get-vehicles_of}

module _ (tables : Tables) (key : VehicleKey) where
  pub told_vehicle : (row : VehicleRow) → get tables.vehicles key ≡ Some row → IsVehicle (world_of tables) key (vehicle_in tables key row)
  told_vehicle row at = get-vehicles_of tables key ∙ ap (option_map (vehicle_in tables key)) at

  from_row : (o : Option VehicleRow) (vehicle : Vehicle) → option_map (vehicle_in tables key) o ≡ Some vehicle → (row : VehicleRow) × (o ≡ Some row) × (vehicle_in tables key row ≡ vehicle)
  from_row None vehicle e = absurd (no_more vehicle e)
  from_row (Some row) vehicle e = (row, refl, same_Some _ _ e)

  pub vehicle_told : (vehicle : Vehicle) → IsVehicle (world_of tables) key vehicle → (row : VehicleRow) × (get tables.vehicles key ≡ Some row) × (vehicle_in tables key row ≡ vehicle)
  vehicle_told vehicle at = from_row (get tables.vehicles key) vehicle (sym (get-vehicles_of tables key) ∙ at)
