-- The rows of a world in the fourteen tables, one list for each in their order, and the effect of each change on the lists.
use Rattle.std.specs.Prelude.{◌≡◌, ℕ, Bool, List, [], ◌∷◌, map, filter, Option, None, Some, IsPermutation}
use Rattle.std.specs.FinMap as finite
use Rattle.std.specs.FinSet as set
use Rattle.std.specs.List.{AllByRecursion, AllZip}
use Rattle.std.specs.declared.cmp.Ordering.{Ordering}
use Rattle.sqlite_value.specs.Order.{Row}
use Rattle.sqlite.specs.Effect.{Database}
use Rattle.agv_header.specs.declared.key.VehicleKey.{VehicleKey}
use Rattle.agv_world_core.specs.Maps.{Maps, maps_of}
use Rattle.agv_world_core.specs.Worlds.{World}
use Rattle.agv_world_core.specs.declared.change.Change.{Change}
use Rattle.agv_world_core.specs.declared.change.Change.TheVariants as row
use Rattle.agv_world_core.specs.declared.row.TripRow.{TripRow}
use Rattle.agv_world_core.specs.declared.row.VehicleRow.{VehicleRow}
use Rattle.agv_store_rows.specs.Columns.{meta_columns, node_columns, edge_columns, station_columns, vehicle_columns, vehicle_capacity_columns, journey_columns, act_columns, leg_columns, load_columns, job_columns, hold_columns, used_columns}
use Rattle.agv_store_schema.specs.DeskRows.{Placing, Holds, place_of, table_at, with_put, with_rows, without_key, without_rows}
use Rattle.agv_store_rows.specs.RowKeys.{name_key, vehicle_key, leg_key, hold_key}
use Rattle.agv_store_schema.specs.RowTexts.{columns_deleted}
use Rattle.agv_store_schema.specs.declared.table_name.TableName.TheVariants as the
use Rattle.agv_store_rows.specs.TripRows.{act_rows, acts_of, journey_of, journeys_of}
use Rattle.agv_store_rows.specs.TripsTold.{IsOfJob}
use Rattle.agv_store_rows.specs.declared.act_key.ActKey.{ActKey}
use Rattle.agv_store_rows.specs.declared.act_row.ActRow.{ActRow}

-- ---- the rows of a world

-- the columns of each entry of a table, in the order of the keys
abbrev pub rows_in : {K X : Type 0} {R : K → K → Ordering} → (K → X → Row) → finite.FinMap R X → List Row
rows_in {K} {X} columns table = map (λ (entry : K × X). columns entry.0 entry.1) (finite.entries table)

-- the members of a set as the keys of a map without values
abbrev pub marked : {K : Type 0} {R : K → K → Ordering} → set.FinSet R → finite.FinMap R (Unit {0})
marked {K} members = finite.from_entries (map (λ (key : K). (key, tt)) (set.items members))

-- the columns of each member of a set
abbrev pub rows_for : {K : Type 0} {R : K → K → Ordering} → (K → Row) → set.FinSet R → List Row
rows_for columns members = rows_in (λ key nothing. columns key) (marked members)

-- the columns of a value, if there is one
abbrev pub row_if : {X : Type 0} → (X → Row) → Option X → List Row
row_if columns None = []
row_if columns (Some x) = columns x ∷ []

-- the rows of the fourteen tables. A vehicle has a row in `vehicle` and one in `capacity`; an open trip has one in `journey`, and one in `act` for each of its acts; `trip` is a table of the first schema and is empty
unfoldable pub row_lists : Maps → List (List Row)
row_lists maps =
    rows_in meta_columns maps.meta
    ∷ rows_for node_columns maps.nodes
    ∷ rows_in edge_columns maps.edges
    ∷ rows_in station_columns maps.stations
    ∷ rows_in vehicle_columns maps.vehicles
    ∷ []
    ∷ rows_in leg_columns maps.legs
    ∷ rows_in load_columns maps.loads
    ∷ rows_in job_columns maps.jobs
    ∷ rows_in hold_columns maps.holds
    ∷ rows_for used_columns maps.used
    ∷ rows_in vehicle_capacity_columns maps.vehicles
    ∷ rows_in journey_columns (journeys_of maps.trips)
    ∷ rows_in act_columns (acts_of maps.trips) ∷ []

-- the rows of a world
abbrev pub rows_of : World → List (List Row)
rows_of world = row_lists (maps_of world)

-- the lists have the same rows, table by table, in some order
abbrev pub AreAlike : List (List Row) → List (List Row) → Type 0
AreAlike = AllZip IsPermutation

-- the lists have the rows of these maps
abbrev pub TellRows : List (List Row) → Maps → Type 0
TellRows lists maps = AreAlike lists (row_lists maps)

-- ---- the rows that pass a test

-- for a test of rows that agrees with a test of entries, the rows that pass are the columns of the entries that pass, in some order
abbrev pub ShowEntries : {K X : Type 0} {R : K → K → Ordering} → List Row → (K → X → Row) → finite.FinMap R X → Type 0
ShowEntries {K} {X} rows columns table =
    (passes : Row → Bool) (is : K × X → Bool) → ((key : K) (x : X) → passes (columns key x) ≡ is (key, x))
    → IsPermutation (filter passes rows) (map (λ (entry : K × X). columns entry.0 entry.1) (filter is (finite.entries table)))

-- this holds for each table
pub record ShowAll (lists : List (List Row)) (maps : Maps) : Type 0 where
  pub nodes : ShowEntries (table_at (place_of the.Node) lists) (λ id nothing. node_columns id) (marked maps.nodes)
  pub edges : ShowEntries (table_at (place_of the.Edge) lists) edge_columns maps.edges
  pub stations : ShowEntries (table_at (place_of the.Station) lists) station_columns maps.stations
  pub vehicles : ShowEntries (table_at (place_of the.Vehicle) lists) vehicle_columns maps.vehicles
  pub trips : table_at (place_of the.Trip) lists ≡ []
  pub legs : ShowEntries (table_at (place_of the.Leg) lists) leg_columns maps.legs
  pub loads : ShowEntries (table_at (place_of the.Load) lists) load_columns maps.loads
  pub jobs : ShowEntries (table_at (place_of the.Job) lists) job_columns maps.jobs
  pub holds : ShowEntries (table_at (place_of the.Hold) lists) hold_columns maps.holds
  pub used : ShowEntries (table_at (place_of the.Used) lists) (λ key nothing. used_columns key) (marked maps.used)
  pub capacities : ShowEntries (table_at (place_of the.Capacity) lists) vehicle_capacity_columns maps.vehicles
  pub journeys : ShowEntries (table_at (place_of the.Journey) lists) journey_columns (journeys_of maps.trips)
  pub acts : ShowEntries (table_at (place_of the.Act) lists) act_columns (acts_of maps.trips)

-- ---- the effect of a change on the lists

-- the lists with the row of a vehicle and the row of its capacity
abbrev pub with_vehicle : VehicleKey → VehicleRow → List (List Row) → List (List Row)
with_vehicle key vehicle lists = with_put the.Capacity (vehicle_key key) (vehicle_capacity_columns key vehicle) (with_put the.Vehicle (vehicle_key key) (vehicle_columns key vehicle) lists)

-- the lists without the acts of an order
abbrev pub without_acts : List ℕ → List (List Row) → List (List Row)
without_acts order = without_rows the.Act (columns_deleted the.Act) (name_key order)

-- the rows of these acts
abbrev pub rows_of_acts : List (ActKey × ActRow) → List Row
rows_of_acts acts = map (λ (act : ActKey × ActRow). act_columns act.0 act.1) acts

-- the lists without the open trip of an order
abbrev pub without_trip : List ℕ → List (List Row) → List (List Row)
without_trip order lists = without_acts order (without_key the.Journey (name_key order) lists)

-- the lists with this open trip in place of the one that the order has, if any
abbrev pub with_trip : List ℕ → TripRow → List (List Row) → List (List Row)
with_trip order trip lists =
    with_rows the.Act (rows_of_acts (act_rows order trip)) (without_acts order (with_put the.Journey (name_key order) (journey_columns order (journey_of trip)) lists))

-- the lists after a change: the row is put in place of the one with its key, or that row is removed
abbrev pub listed : Change → List (List Row) → List (List Row)
listed (row.Node id) = with_put the.Node (name_key id) (node_columns id)
listed (row.Edge id ends) = with_put the.Edge (name_key id) (edge_columns id ends)
listed (row.Station id site) = with_put the.Station (name_key id) (station_columns id site)
listed (row.Vehicle key vehicle) = with_vehicle key vehicle
listed (row.Trip order None) = without_trip order
listed (row.Trip order (Some trip)) = with_trip order trip
listed (row.Leg key None) = without_key the.Leg (leg_key key)
listed (row.Leg key (Some edge)) = with_put the.Leg (leg_key key) (leg_columns key edge)
listed (row.Load id place) = with_put the.Load (name_key id) (load_columns id place)
listed (row.Job id job) = with_put the.Job (name_key id) (job_columns id job)
listed (row.Hold thing None) = without_key the.Hold (hold_key thing)
listed (row.Hold thing (Some key)) = with_put the.Hold (hold_key thing) (hold_columns thing key)
listed (row.Used key) = with_put the.Used (used_columns key) (used_columns key)

-- the lists after all changes, one after the other
unfoldable pub listed_all : List Change → List (List Row) → List (List Row)
listed_all [] lists = lists
listed_all (one ∷ changes) lists = listed_all changes (listed one lists)

-- ---- what the tables encode

-- each act of each open trip has the load and the station of its job, which is known; the tables encode only such trips
abbrev pub ActsAreOfJobs : Maps → Type 0
ActsAreOfJobs maps = (order : List ℕ) (trip : TripRow) → finite.get maps.trips order ≡ Some trip → AllByRecursion (IsOfJob maps.jobs) trip.acts

-- ---- a database

-- the desk's tables in the database have the rows of this world
abbrev pub HoldsWorld : Placing → Database → World → Type 0
HoldsWorld desk db world = Holds desk db (rows_of world)
