-- The world that the desk's tables in a database encode, defined for every database.
use Rattle.std.specs.Prelude.{ℕ, List, [], map, Option, None, Some, option_and_then, slice_get, unwrap_or}
use Rattle.std.specs.FinMap as finite
use Rattle.std.specs.FinSet as set
use Rattle.std.specs.declared.cmp.Ordering.{Ordering}
use Rattle.sqlite_value.specs.Order.{Row}
use Rattle.sqlite_schema.specs.Names.{table_named}
use Rattle.sqlite_schema.specs.declared.schema.Schema.{Schema}
use Rattle.sqlite_schema.specs.declared.schema.Table.{Table}
use Rattle.sqlite.specs.Effect.{Database}
use Rattle.agv_header.specs.Key.{key_cmp}
use Rattle.agv_header.specs.Name.{name_cmp}
use Rattle.agv_store_rows.specs.ActKeys.{act_cmp}
use Rattle.agv_store_rows.specs.declared.act_row.ActRow.{ActRow}
use Rattle.agv_store_rows.specs.declared.journey_row.JourneyRow.{JourneyRow}
use Rattle.agv_world_core.specs.Told.{world_of}
use Rattle.agv_world_core.specs.Worlds.{World}
use Rattle.agv_world_core.specs.declared.row.JobRow.{JobRow}
use Rattle.agv_world_core.specs.declared.world.World.{World as Tables}
use Rattle.agv_store_rows.specs.declared.capacity_row.CapacityRow.{CapacityRow}
use Rattle.agv_store_rows.specs.Columns.{act_in, capacity_in, edge_in, job_in, journey_in, leg_in, load_in, node_in, station_in, used_in}
use Rattle.agv_store_schema.specs.DeskRows.{Placing, TableKeys, keys_of, place_of, shown_in, table_at, table_for, table_names}
use Rattle.agv_store_read.specs.ReadTables.{read_members, read_rows}
use Rattle.agv_store_rows.specs.DecodedTrips.{trips_with, vehicle_with}
use Rattle.agv_store_schema.specs.declared.table_name.TableName.{TableName}
use Rattle.agv_store_schema.specs.declared.table_name.TableName.TheVariants as the

-- ---- the tables in the schema

-- the number of the tree of a table that was found; 0, which is no table's, if none was
abbrev pub tree_of : Option Table → ℕ
tree_of None = 0
tree_of (Some table) = table.tree

-- the keys of a table that was found, as they are written
abbrev pub keys_found : Option Table → TableKeys
keys_found None = record { primary = []; indexed = []; rowid_column = None }
keys_found (Some table) = keys_of table

-- the table that SQL finds by that name
abbrev pub found_as : Schema → TableName → Option Table
found_as schema name = option_and_then (slice_get schema.tables) (table_named schema (table_for name).name)

-- the trees and the keys of the fourteen tables in the schema, if they are there
abbrev pub placed_in : Schema → Placing
placed_in schema = record { schema = schema; tree = λ name. tree_of (found_as schema name); keys = λ name. keys_found (found_as schema name) }

-- ---- the rows of the tables

-- the rows of all entries of each of the fourteen tables, in the order of `table_names`
unfoldable pub lists_in : Database → List (List Row)
lists_in db = map (λ (name : TableName). map (shown_in (placed_in db.schema) name) (db.trees ((placed_in db.schema).tree name))) table_names

-- ---- what the rows encode

-- the table that the rows encode; empty if they encode none
abbrev pub table_told : {K X : Type 0} {R : K → K → Ordering} → (Row → Option (K × X)) → List Row → finite.FinMap R X
table_told told rows = unwrap_or (read_rows told finite.empty rows) finite.empty

-- the set that the rows encode; empty if they encode none
abbrev pub members_told : {K : Type 0} {R : K → K → Ordering} → (Row → Option K) → List Row → set.FinSet R
members_told told rows = unwrap_or (read_members told set.empty rows) set.empty

-- the jobs that the lists encode
abbrev pub jobs_in : List (List Row) → finite.FinMap name_cmp JobRow
jobs_in lists = table_told job_in (table_at (place_of the.Job) lists)

-- the capacities of the vehicles that the lists encode
abbrev pub capacities_in : List (List Row) → finite.FinMap key_cmp CapacityRow
capacities_in lists = table_told capacity_in (table_at (place_of the.Capacity) lists)

-- the journeys that the lists encode
abbrev pub journeys_in : List (List Row) → finite.FinMap name_cmp JourneyRow
journeys_in lists = table_told journey_in (table_at (place_of the.Journey) lists)

-- the acts that the lists encode
abbrev pub acts_in : List (List Row) → finite.FinMap act_cmp ActRow
acts_in lists = table_told act_in (table_at (place_of the.Act) lists)

-- the tables in memory that the lists encode, a vehicle with its capacity, and a trip with its journey, its acts and the rows of their jobs; `meta` is not part of them, and the holds follow from the others
abbrev pub tables_in : List (List Row) → Tables
tables_in lists = record {
  nodes = members_told node_in (table_at (place_of the.Node) lists);
  edges = table_told edge_in (table_at (place_of the.Edge) lists);
  stations = table_told station_in (table_at (place_of the.Station) lists);
  vehicles = table_told (vehicle_with (capacities_in lists)) (table_at (place_of the.Vehicle) lists);
  trips = trips_with (journeys_in lists) (acts_in lists) (jobs_in lists);
  legs = table_told leg_in (table_at (place_of the.Leg) lists);
  loads = table_told load_in (table_at (place_of the.Load) lists);
  jobs = jobs_in lists;
  used = members_told used_in (table_at (place_of the.Used) lists);
}

-- the world that the database encodes
unfoldable pub world_in : Database → World
world_in db = world_of (tables_in (lists_in db))
