-- The first schema: eleven of the desk's tables, and their rows for a world in which each vehicle has the capacity 1.
use Rattle.std.specs.Prelude.{◌≡◌, ◌≢◌, ℕ, Bool, true, false, List, [], ◌∷◌}
use Rattle.std.specs.FinMap as finite
use Rattle.std.specs.List.{AllZip, flat_map}
use Rattle.sqlite_value.specs.Order.{Row}
use Rattle.sqlite_trees.specs.Tree.{IsAscending}
use Rattle.sqlite_schema.specs.declared.schema.Table.{Table}
use Rattle.sqlite.specs.Effect.{Database}
use Rattle.agv_header.specs.Name.{name_cmp}
use Rattle.agv_header.specs.declared.key.VehicleKey.{VehicleKey}
use Rattle.agv_order.specs.declared.trip.Trip.{Trip}
use Rattle.agv_world_core.specs.ConsistentTrips.{HasTrip}
use Rattle.agv_world_core.specs.Lawful.{IsLawful}
use Rattle.agv_world_core.specs.Maps.{Maps, maps_of}
use Rattle.agv_world_core.specs.Worlds.{World}
use Rattle.agv_world_core.specs.declared.row.TripRow.{TripRow}
use Rattle.agv_store_rows.specs.Columns.{meta_columns, node_columns, edge_columns, station_columns, vehicle_columns, leg_columns, load_columns, job_columns, hold_columns, used_columns}
use Rattle.agv_store_schema.specs.DeskRows.{Placing, TableHas, TableStands}
use Rattle.agv_store_rows.specs.Rows.{row_if, rows_for, rows_in}
use Rattle.agv_store_schema.specs.declared.table_name.TableName.{TableName}
use Rattle.agv_store_schema.specs.declared.table_name.TableName.TheVariants as the
use Rattle.agv_store_migrate.specs.FirstColumns.{trip_columns}
use Rattle.agv_store_migrate.specs.TripLines.{line_of}

-- ---- the tables

-- the number of the first schema, in the one row of `meta`
abbrev pub first_schema : ℕ
first_schema = 1

-- the eleven tables, in the order of the lists of their rows
abbrev pub first_names : List TableName
first_names = the.Meta ∷ the.Node ∷ the.Edge ∷ the.Station ∷ the.Vehicle ∷ the.Trip ∷ the.Leg ∷ the.Load ∷ the.Job ∷ the.Hold ∷ the.Used ∷ []

-- the table is one of the eleven; the three others were added by the second schema
abbrev pub is_first : TableName → Bool
is_first the.Capacity = false
is_first the.Journey = false
is_first the.Act = false
is_first _ = true

-- the eleven tables are in the schema, beside any other tables and indexes
pub record IsFirstDesk (desk : Placing) : Type 0 where
  pub stands : (name : TableName) → is_first name ≡ true → TableStands desk name
  -- no two tables have the same tree
  pub apart : IsAscending (λ (s t : Table). s.tree ≢ t.tree) desk.schema.tables

-- ---- their rows

-- the database has this schema, and the eleven tables have these rows, one list for each
pub record FirstHolds (desk : Placing) (db : Database) (lists : List (List Row)) : Type 0 where
  pub schema_is : db.schema ≡ desk.schema
  pub rows : AllZip (TableHas desk db.trees) first_names lists

-- the rows of the open trips of one job each; other trips have none
abbrev pub trip_rows : finite.FinMap name_cmp TripRow → List Row
trip_rows trips = flat_map (λ (entry : List ℕ × TripRow). row_if trip_columns (line_of entry.0 entry.1)) (finite.entries trips)

-- the rows of a world, table by table
unfoldable pub first_lists : Maps → List (List Row)
first_lists maps =
    (meta_columns 1 first_schema ∷ [])
    ∷ rows_for node_columns maps.nodes
    ∷ rows_in edge_columns maps.edges
    ∷ rows_in station_columns maps.stations
    ∷ rows_in vehicle_columns maps.vehicles
    ∷ trip_rows maps.trips
    ∷ rows_in leg_columns maps.legs
    ∷ rows_in load_columns maps.loads
    ∷ rows_in job_columns maps.jobs
    ∷ rows_in hold_columns maps.holds
    ∷ rows_for used_columns maps.used ∷ []

-- ---- a database

-- each open trip of the world serves a job: it has an act, and so is no drive
abbrev pub ServesJobs : World → Type 0
ServesJobs world = (key : VehicleKey) (trip : Trip) → HasTrip world key trip → trip.acts ≢ []

-- the eleven tables in the database have the rows of this lawful world, in which each vehicle has the capacity 1
pub record HasFirstWorld (desk : Placing) (db : Database) (world : World) : Type 0 where
  pub stands : IsFirstDesk desk
  pub lawful : IsLawful 1 world
  -- the first schema has no drives
  pub served : ServesJobs world
  pub rows : FirstHolds desk db (first_lists (maps_of world))

-- the database has the rows of no such world
abbrev pub HasNoFirstWorld : Database → Type 0
HasNoFirstWorld db = (desk : Placing) (world : World) → ¬ HasFirstWorld desk db world
