-- What the lists of rows of the first schema's tables encode, and the results of decoding them.
use Rattle.std.specs.Prelude.{◌≡◌, ℕ, nat_eq, ◌&&◌, Bool, true, false, List, [], ◌∷◌, map, Option, None, Some, Result, Ok, Err}
use Rattle.std.specs.FinMap as finite
use Rattle.std.specs.FinSet as set
use Rattle.std.specs.declared.vec.Vec.{Vec}
use Rattle.sqlite_value.specs.Order.{Row}
use Rattle.agv_track_holds.specs.Holds.{Holds as Holders}
use Rattle.agv_world_core.specs.declared.world.World.{World as Tables}
use Rattle.agv_store_rows.specs.Columns.{edge_in, hold_in, job_in, leg_in, load_in, meta_in, node_in, station_in, used_in, vehicle_in}
use Rattle.agv_store_schema.specs.DeskRows.{place_of, table_at}
use Rattle.agv_store_read.specs.ReadTables.{read_members, read_rows}
use Rattle.agv_store_read.specs.declared.open_fault.OpenFault.{OpenFault}
use Rattle.agv_store_read.specs.declared.open_fault.OpenFault.TheVariants as fault
use Rattle.agv_store_read.specs.declared.held_things.HeldThings.{HeldThings}
use Rattle.agv_store_schema.specs.declared.table_name.TableName.TheVariants as the
use Rattle.agv_store_migrate.specs.FirstColumns.{trip_with}
use Rattle.agv_store_migrate.specs.FirstRows.{first_schema}

-- the rows of each list in memory
abbrev pub rows_listed : {A : Type 0} → List (Vec Row A) → List (List Row)
rows_listed {A} lists = map (λ (rows : Vec Row A). rows.items) lists

-- ---- meta

-- the row of `meta` of the first schema
abbrev pub is_first_row : Option (ℕ × ℕ) → Bool
is_first_row None = false
is_first_row (Some told) = nat_eq told.0 1 && nat_eq told.1 first_schema

-- the table has exactly this row
abbrev pub has_first_row : List Row → Bool
has_first_row [] = false
has_first_row (row ∷ []) = is_first_row (meta_in row)
has_first_row (row ∷ (other ∷ rows)) = false

-- ---- the tables

-- each list encodes its table: each row of it encodes one entry, and no two the same key
pub record TellTables (lists : List (List Row)) (tables : Tables) : Type 0 where
  pub nodes : read_members node_in set.empty (table_at (place_of the.Node) lists) ≡ Some tables.nodes
  pub edges : read_rows edge_in finite.empty (table_at (place_of the.Edge) lists) ≡ Some tables.edges
  pub stations : read_rows station_in finite.empty (table_at (place_of the.Station) lists) ≡ Some tables.stations
  pub vehicles : read_rows vehicle_in finite.empty (table_at (place_of the.Vehicle) lists) ≡ Some tables.vehicles
  pub jobs : read_rows job_in finite.empty (table_at (place_of the.Job) lists) ≡ Some tables.jobs
  pub trips : read_rows (trip_with tables.jobs) finite.empty (table_at (place_of the.Trip) lists) ≡ Some tables.trips
  pub legs : read_rows leg_in finite.empty (table_at (place_of the.Leg) lists) ≡ Some tables.legs
  pub loads : read_rows load_in finite.empty (table_at (place_of the.Load) lists) ≡ Some tables.loads
  pub used : read_members used_in set.empty (table_at (place_of the.Used) lists) ≡ Some tables.used

-- the lists encode these tables, with the row of the schema's number and the table of the holds
pub record TellFirst (lists : List (List Row)) (tables : Tables) (held : Holders) : Type 0 where
  pub meta : has_first_row (table_at (place_of the.Meta) lists) ≡ true
  pub tables_are : TellTables lists tables
  pub holds : read_rows hold_in finite.empty (table_at (place_of the.Hold) lists) ≡ Some held

-- ---- the results

-- a result has this property, or memory ran out; `Damaged` occurs only if nothing has the property
abbrev pub Finds : {A : Type 0} → Result A OpenFault → (A → Type 0) → Type 0
Finds (Ok a) is = is a
Finds (Err fault.Memory) is = Unit {0}
Finds (Err fault.Storage) is = ⊥
Finds {A} (Err fault.Damaged) is = (a : A) → ¬ is a

-- the tables, with the table of the holds
abbrev pub tables_and_holds : Result (Tables × HeldThings) OpenFault → Result (Tables × Holders) OpenFault
tables_and_holds (Ok read) = Ok (read.0, read.1.table)
tables_and_holds (Err why) = Err why
