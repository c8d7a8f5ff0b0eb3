-- The checks of the rows of `meta`, of the holds, and of the capacities, beyond the decoding of each row.
use Rattle.std.specs.Prelude.{ℕ, nat_eq, ◌&&◌, Bool, false, if◌then◌else◌, List, [], ◌∷◌, Option, None, Some, Result, Ok, Err}
use Rattle.std.specs.FinMap.{FinMap, entries, get}
use Rattle.std.specs.List.{list_all}
use Rattle.std.specs.Option.{is_some}
use Rattle.sqlite_value.specs.Order.{Row}
use Rattle.agv_store_rows.specs.Columns.{meta_in}
use Rattle.agv_header.specs.Key.{key_cmp}
use Rattle.agv_header.specs.declared.key.VehicleKey.{VehicleKey}
use Rattle.agv_track_holds.specs.Holds.{Holds}
use Rattle.agv_world_core.specs.declared.row.VehicleRow.{VehicleRow}
use Rattle.agv_store_schema.specs.SchemaNumbers.{schema_number}
use Rattle.agv_store_read.specs.declared.held_things.HeldThings.{HeldThings}
use Rattle.agv_store_rows.specs.declared.capacity_row.CapacityRow.{CapacityRow}
use Rattle.agv_store_read.specs.declared.open_fault.OpenFault.{OpenFault}
use Rattle.agv_store_read.specs.declared.open_fault.OpenFault.TheVariants as fault

-- the row of `meta` of the second schema
abbrev pub is_desk_meta : Option (ℕ × ℕ) → Bool
is_desk_meta None = false
is_desk_meta (Some told) = nat_eq told.0 1 && nat_eq told.1 schema_number

-- the result of reading `meta`: its one row has to be that row
abbrev pub meta_read : List Row → Result (Unit {0}) OpenFault
meta_read [] = Err fault.Damaged
meta_read (row ∷ []) = if is_desk_meta (meta_in row) then Ok tt else Err fault.Damaged
meta_read (row ∷ (other ∷ rows)) = Err fault.Damaged

-- the table of the holds, if these were read
abbrev pub table_read : Result HeldThings OpenFault → Result Holds OpenFault
table_read (Ok held) = Ok held.table
table_read (Err why) = Err why

-- each of the capacities is that of a vehicle
abbrev pub are_of_vehicles : FinMap key_cmp VehicleRow → FinMap key_cmp CapacityRow → Bool
are_of_vehicles vehicles capacities = list_all (λ (own : VehicleKey × CapacityRow). is_some (get vehicles own.0)) (entries capacities)
