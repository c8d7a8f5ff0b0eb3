-- The results of reading whole tables, whatever rows they have.
use Rattle.std.specs.FinMap as finite
use Rattle.std.specs.Ordering.{nat_cmp}
use Rattle.std.specs.Prelude.{◌≡◌, ℕ, List, [], Result, IfErr, IfOk, IsPermutation}
use Rattle.sqlite_trees.specs.declared.store.Store.{Ghosts}
use Rattle.sqlite_value.specs.Order.{Row}
use Rattle.sqlite.specs.Held.{Held, state}
use Rattle.sqlite.specs.State.{HasCleanDisk}
use Rattle.agv_track_holds.specs.Holds.{Holds as Holders}
use Rattle.agv_store_rows.specs.TripRows.{acts_of, journeys_of}
use Rattle.agv_world_core.specs.Worlds.{World}
use Rattle.agv_world_core.specs.declared.world.World.{World as Tables}
use Rattle.agv_store_rows.specs.Columns.{act_columns, edge_columns, journey_columns, hold_columns, job_columns, leg_columns, load_columns, meta_columns, node_columns, vehicle_capacity_columns, station_columns, used_columns, vehicle_columns}
use Rattle.agv_store_schema.specs.Connections.{HasStorageCause}
use Rattle.agv_store_schema.specs.DeskRows.{Placing, Holds, IsDesk, place_of, table_at}
use Rattle.agv_store_rows.specs.Rows.{rows_for, rows_in}
use Rattle.agv_store_schema.specs.SchemaNumbers.{schema_number}
use Rattle.agv_store_read.specs.WorldAnswers.{AnswersQuery}
use Rattle.agv_store_read.specs.declared.open_fault.OpenFault.{OpenFault}
use Rattle.agv_store_read.specs.declared.open_fault.OpenFault.TheVariants as fault
use Rattle.agv_store_schema.specs.declared.table_name.TableName.TheVariants as the

-- the answer is true of the rows that the desk's tables have, whatever these are
abbrev pub Shows : {S A : Type 0} → Ghosts S → Held S → Held S → Result A OpenFault → (List (List Row) → A → Type 0) → Type 0
Shows g old new result says =
    HasCleanDisk (state g new)
    → IfOk result (λ answer. (desk : Placing) → IsDesk desk → (lists : List (List Row)) → Holds desk (state g old).now lists → says lists answer)

-- if the database has the desk's tables, whatever rows they have, a fault of the store has a cause
abbrev pub HasCauseOverTables : {S : Type 0} → Ghosts S → Held S → Held S → Type 0
HasCauseOverTables g old new = (desk : Placing) → IsDesk desk → (state g old).now.schema ≡ desk.schema → HasStorageCause g old new

module _ {S A : Type 0} (g : Ghosts S) (old new : Held S) (result : Result A OpenFault) (says : World → A → Type 0) (shows : List (List Row) → A → Type 0) where
  -- the result of reading whole tables
  pub record TellsAll : Type 0 where
    -- the result is that of a query about the world whose rows the tables have
    pub tells : AnswersQuery g old new result says
    -- the answer is true of the rows of the tables, whatever these are
    pub exact : Shows g old new result shows
    -- `Storage` occurs only if the store failed, had been closed, or limits the steps of a query, whatever rows the tables have
    pub caused : HasCleanDisk (state g new) → IfErr result (λ why. why ≡ fault.Storage → HasCauseOverTables g old new)

-- the one row of `meta`: the number of the schema
abbrev pub desk_meta : finite.FinMap nat_cmp ℕ
desk_meta = finite.insert finite.empty 1 schema_number

-- the lists have exactly the rows of the tables in memory; the lists of `meta` and of the holds are left open
pub record HaveTables (lists : List (List Row)) (tables : Tables) : Type 0 where
  pub nodes : IsPermutation (table_at (place_of the.Node) lists) (rows_for node_columns tables.nodes)
  pub edges : IsPermutation (table_at (place_of the.Edge) lists) (rows_in edge_columns tables.edges)
  pub stations : IsPermutation (table_at (place_of the.Station) lists) (rows_in station_columns tables.stations)
  pub vehicles : IsPermutation (table_at (place_of the.Vehicle) lists) (rows_in vehicle_columns tables.vehicles)
  pub legs : IsPermutation (table_at (place_of the.Leg) lists) (rows_in leg_columns tables.legs)
  pub loads : IsPermutation (table_at (place_of the.Load) lists) (rows_in load_columns tables.loads)
  pub jobs : IsPermutation (table_at (place_of the.Job) lists) (rows_in job_columns tables.jobs)
  pub used : IsPermutation (table_at (place_of the.Used) lists) (rows_for used_columns tables.used)
  pub capacities : IsPermutation (table_at (place_of the.Capacity) lists) (rows_in vehicle_capacity_columns tables.vehicles)
  pub journeys : IsPermutation (table_at (place_of the.Journey) lists) (rows_in journey_columns (journeys_of tables.trips))
  pub acts : IsPermutation (table_at (place_of the.Act) lists) (rows_in act_columns (acts_of tables.trips))
  -- the table of the first schema's trips is empty
  pub trips : table_at (place_of the.Trip) lists ≡ []

-- the lists have the row of `meta` of the second schema, the rows of these tables, and those of these holds
pub record HaveAll (lists : List (List Row)) (read : Tables) (held : Holders) : Type 0 where
  pub meta : IsPermutation (table_at (place_of the.Meta) lists) (rows_in meta_columns desk_meta)
  pub tables : HaveTables lists read
  pub holds : IsPermutation (table_at (place_of the.Hold) lists) (rows_in hold_columns held)
