-- The statements that move a database from the first schema to the second, and when SQL refuses one of them.
use Rattle.std.specs.Prelude.{◌≡◌, ◌⊎◌, ◌≤◌, ◌+◌, not, nat_lt, ℕ, Bool, true, false, List, [], ◌∷◌, ◌++◌, codes, length, map}
use Rattle.std.specs.FinMap as finite
use Rattle.std.specs.List.{AllByRecursion, flat_map, list_all}
use Rattle.sqlite_schema.specs.declared.schema.Index.{Index}
use Rattle.sqlite_schema.specs.declared.schema.Schema.{Schema}
use Rattle.sqlite_schema.specs.declared.schema.Table.{Table}
use Rattle.sqlite_catalog.specs.Change.{automatics, created, is_used, next_tree}
use Rattle.sqlite.specs.Does.{lacks_sequence}
use Rattle.sqlite.specs.Effect.{Database}
use Rattle.agv_header.specs.Name.{name_cmp}
use Rattle.agv_header.specs.declared.key.VehicleKey.{VehicleKey}
use Rattle.agv_world_core.specs.declared.row.TripRow.{TripRow}
use Rattle.agv_world_core.specs.declared.row.VehicleRow.{VehicleRow}
use Rattle.agv_world_core.specs.declared.world.World.{World as Tables}
use Rattle.agv_store_rows.specs.Columns.{journey_columns, meta_columns, vehicle_capacity_columns}
use Rattle.agv_store_rows.specs.Rows.{rows_of_acts}
use Rattle.agv_store_rows.specs.TripRows.{act_rows, journey_of}
use Rattle.agv_store_schema.specs.SchemaNumbers.{schema_number}
use Rattle.agv_store_schema.specs.declared.table_name.TableName.TheVariants as the
use Rattle.agv_store_create.specs.DeskSchema.{with_new_table}
use Rattle.agv_store_create.specs.TextsRun.{RunSteps}
use Rattle.agv_store_sql.specs.Refusals.{RefusesOne, Statement, insertions}
use Rattle.agv_store_migrate.specs.Moved.{added_tables, added_texts}

-- the statements that create the three tables; each is executed
abbrev pub adding_steps : List (Bool × List ℕ)
adding_steps = map (λ text. (true, text)) added_texts

-- the statement that empties `trip`
abbrev pub trip_emptied : Statement
trip_emptied = (codes "DELETE FROM trip", [])

-- the statement that empties `meta`
abbrev pub meta_emptied : Statement
meta_emptied = (codes "DELETE FROM meta", [])

-- the statement that inserts the number of the second schema
abbrev pub number_inserted : Statement
number_inserted = (codes "INSERT INTO meta (id, schema) VALUES (?1, ?2)", meta_columns 1 schema_number)

-- the statement that inserts the capacity of a vehicle
abbrev pub capacity_inserted : VehicleKey × VehicleRow → List Statement
capacity_inserted entry = insertions the.Capacity (vehicle_capacity_columns entry.0 entry.1 ∷ [])

-- the statements that insert an open trip: its journey, and then its acts
abbrev pub trip_inserted : List ℕ × TripRow → List Statement
trip_inserted entry = insertions the.Journey (journey_columns entry.0 (journey_of entry.1) ∷ []) ++ insertions the.Act (rows_of_acts (act_rows entry.0 entry.1))

-- the statements that rewrite the rows of these tables
abbrev pub row_statements : Tables → List Statement
row_statements tables =
    trip_emptied ∷ meta_emptied ∷ number_inserted ∷ (flat_map capacity_inserted (finite.entries tables.vehicles) ++ flat_map trip_inserted (finite.entries tables.trips))

-- no trip has more acts than can be numbered
abbrev pub HaveFewActs : finite.FinMap name_cmp TripRow → Type 0
HaveFewActs trips = AllByRecursion (λ (entry : List ℕ × TripRow). length entry.1.acts ≤ 4294967296) (finite.entries trips)

-- one more table can be created: its name and those of the indexes of its keys are free, it leaves fewer than 65,536 trees, and `sqlite_sequence` isn't missing
pub record HasRoom (schema : Schema) (t : Table) : Type 0 where
  pub free : is_used schema t.name ≡ false
  pub own : list_all (λ (i : Index). not (is_used schema i.name)) (automatics t 0 0 t.uniques) ≡ true
  pub room : nat_lt (next_tree schema + length t.uniques) 65536 ≡ true
  pub complete : lacks_sequence (created schema t) ≡ false

-- these tables can be created, one after the other
abbrev pub HaveRoom : Schema → List Table → Type 0
HaveRoom schema [] = Unit {0}
HaveRoom schema (t ∷ tables) = HasRoom schema t × HaveRoom (with_new_table schema t) tables

-- the schema has no room for the three tables, or SQL refuses one of the statements that follow, after those before it ran
abbrev pub RefusesMove : Tables → Database → Type 0
RefusesMove tables db = (¬ HaveRoom db.schema added_tables) ⊎ ((made : Database) × RunSteps adding_steps db made × RefusesOne (row_statements tables) made)
