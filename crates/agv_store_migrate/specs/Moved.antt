-- What moving a database from the first schema to the second does to it.
use Rattle.std.specs.Prelude.{◌≡◌, ◌≢◌, ◌⊎◌, ℕ, Bool, true, false, List, [], ◌∷◌, map, fold, drop}
use Rattle.std.specs.FinMap as finite
use Rattle.std.specs.List.{AllByRecursion, list_any}
use Rattle.sqlite_trees.specs.Tree.{Trees}
use Rattle.sqlite_value.specs.Order.{Row}
use Rattle.sqlite_schema.specs.declared.schema.Schema.{Schema}
use Rattle.sqlite_schema.specs.declared.schema.Table.{Table}
use Rattle.sqlite_catalog.specs.Change.{is_used}
use Rattle.sqlite.specs.Effect.{Database, IsDatabase}
use Rattle.agv_header.specs.declared.key.VehicleKey.{VehicleKey}
use Rattle.agv_store_rows.specs.TripRows.{act_rows, journey_of}
use Rattle.agv_world_core.specs.Kept.{Keeps}
use Rattle.agv_world_core.specs.Worlds.{World}
use Rattle.agv_world_core.specs.declared.row.TripRow.{TripRow}
use Rattle.agv_world_core.specs.declared.row.VehicleRow.{VehicleRow}
use Rattle.agv_world_core.specs.declared.world.World.{World as Tables}
use Rattle.agv_store_schema.specs.declared.table_name.TableName.{TableName}
use Rattle.agv_store_schema.specs.declared.table_name.TableName.TheVariants as the
use Rattle.agv_store_migrate.specs.FirstRows.{HasFirstWorld, is_first}
use Rattle.agv_store_read.specs.WorldAnswers.{HasWorld}
use Rattle.agv_store_rows.specs.Columns.{journey_columns, meta_columns, vehicle_capacity_columns}
use Rattle.agv_store_schema.specs.DeskRows.{Placing, is_unreferred, on_table, place_of, table_for, with_row, with_rows}
use Rattle.agv_store_rows.specs.Rows.{rows_of_acts}
use Rattle.agv_store_create.specs.DeskSchema.{with_new_table}
use Rattle.agv_store_schema.specs.Schema.{desk_tables}
use Rattle.agv_store_schema.specs.SchemaNumbers.{schema_number}
use Rattle.agv_store_create.specs.SchemaTexts.{table_texts}

-- ---- the tables that the second schema adds

-- the tables of capacities, journeys and acts
abbrev pub added_tables : List Table
added_tables = drop 11 desk_tables

-- the texts that create them
abbrev pub added_texts : List (List ℕ)
added_texts = drop 11 table_texts

-- a table, a view or an index has the name of one of them
abbrev pub is_added_name_taken : Schema → Bool
is_added_name_taken schema = list_any (is_used schema) (map (λ (t : Table). t.name) added_tables)

-- they can be created beside what the schema has: their names are free, and no foreign key refers to one of them
pub record CanBeAdded (schema : Schema) : Type 0 where
  pub free : is_added_name_taken schema ≡ false
  pub unreferred : (name : TableName) → is_first name ≡ false → is_unreferred (table_for name).name schema.tables ≡ true

-- ---- the changes to the rows

-- the lists without the rows of a table
abbrev pub without_all : TableName → List (List Row) → List (List Row)
without_all name = on_table (place_of name) (λ rows. [])

-- the lists with the number of the second schema in the one row of `meta`
abbrev pub numbered_anew : List (List Row) → List (List Row)
numbered_anew lists = with_row the.Meta (meta_columns 1 schema_number) (without_all the.Meta lists)

-- the lists with the capacity of a vehicle
abbrev pub with_vehicle_capacity : VehicleKey × VehicleRow → List (List Row) → List (List Row)
with_vehicle_capacity entry = with_row the.Capacity (vehicle_capacity_columns entry.0 entry.1)

-- the lists with the journey and the acts of an open trip
abbrev pub with_journey : List ℕ × TripRow → List (List Row) → List (List Row)
with_journey entry lists = with_rows the.Act (rows_of_acts (act_rows entry.0 entry.1)) (with_row the.Journey (journey_columns entry.0 (journey_of entry.1)) lists)

-- the lists after this step for each element, one after the other
abbrev pub for_each : {E : Type 0} → (E → List (List Row) → List (List Row)) → List E → List (List Row) → List (List Row)
for_each step [] lists = lists
for_each step (e ∷ es) lists = for_each step es (step e lists)

-- the lists with the number of the second schema, the capacities of the vehicles, and the open trips as journeys and acts
abbrev pub moved_lists : Tables → List (List Row) → List (List Row)
moved_lists tables lists =
    for_each with_journey (finite.entries tables.trips)
    (for_each with_vehicle_capacity (finite.entries tables.vehicles)
    (numbered_anew (without_all the.Trip lists)))

-- ---- the result of moving a database

-- the database had the first schema's rows of a world, and now has the second's
pub record MovesWorld (first : Placing) (world : World) (old new : Database) : Type 0 where
  -- the tables, views and indexes that were there, followed by the three tables
  pub schema_is : new.schema ≡ fold with_new_table old.schema added_tables
  -- the fourteen tables have the rows of that world
  pub at : Placing
  pub has : HasWorld at new world
  -- a table that was there and is not one of the eleven has the rows that it had
  pub others : AllByRecursion (λ (t : Table). ((name : TableName) → is_first name ≡ true → t.tree ≢ first.tree name) → new.trees t.tree ≡ old.trees t.tree) old.schema.tables
  -- opening these trees gives this schema
  pub listed : IsDatabase new

-- the database is moved for each world whose rows it had, if the tables in memory are those of that world
abbrev pub MovesTables : Tables → Database → Database → Type 0
MovesTables tables old new = (first : Placing) (world : World) → HasFirstWorld first old world → Keeps tables world → MovesWorld first world old new

-- the trees that a crash may leave of the move: those with all of it
abbrev pub LeavesMoved : Tables → Database → Trees → Type 0
LeavesMoved tables old trees = (new : Database) × MovesTables tables old new × (trees ≡ new.trees)

-- opening the database after a crash during the move finds it as it was, or moved
abbrev pub OpeningsFindEitherSchema : Type 0
OpeningsFindEitherSchema =
    (tables : Tables) (old found : Database) (first : Placing) (world : World) → HasFirstWorld first old world → Keeps tables world → IsDatabase old → IsDatabase found
    → (found.trees ≡ old.trees) ⊎ LeavesMoved tables old found.trees → (found ≡ old) ⊎ MovesWorld first world old found
