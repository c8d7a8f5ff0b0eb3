-- The queries for rows by columns other than the key, or for all rows of a table, and their SQL texts.
use Rattle.std.specs.Prelude.{◌≡◌, slice_index_or, ℕ, suc, ◌-◌, Bool, true, ◌&&◌, List, [], ◌∷◌, filter, codes}
use Rattle.sqlite_value.specs.Order.{Row, column}
use Rattle.sqlite_schema.specs.declared.schema.Column.{Column}
use Rattle.agv_store_schema.specs.DeskRows.{table_for, place_of, table_at, is_equal, fits}
use Rattle.agv_store_schema.specs.Schema.{text}
use Rattle.agv_store_schema.specs.declared.rows_by.RowsBy.{RowsBy}
use Rattle.agv_store_schema.specs.declared.rows_by.RowsBy.TheVariants as by
use Rattle.agv_store_schema.specs.declared.table_name.TableName.{TableName}
use Rattle.agv_store_schema.specs.declared.table_name.TableName.TheVariants as the

-- the table that is queried
abbrev pub table_asked : RowsBy → TableName
table_asked by.VehicleJourney = the.Journey
table_asked by.OrderActs = the.Act
table_asked by.OrderLegs = the.Leg
table_asked by.StationLoads = the.Load
table_asked by.LoadJobs = the.Job

-- the columns by which it is queried, numbered from 1
abbrev pub columns_asked : RowsBy → List ℕ
columns_asked by.VehicleJourney = 2 ∷ 3 ∷ []
columns_asked by.OrderActs = 1 ∷ []
columns_asked by.OrderLegs = 1 ∷ []
columns_asked by.StationLoads = 3 ∷ []
columns_asked by.LoadJobs = 2 ∷ 5 ∷ []

-- the columns of the row are equal to the values from this position on
abbrev pub equal_from : ℕ → List ℕ → Row → Row → Bool
equal_from k [] values row = true
equal_from k (c ∷ columns) values row = is_equal (column row (c - 1)) (column values k) && equal_from (suc k) columns values row

-- the columns of a table with these numbers
abbrev pub columns_at : TableName → List ℕ → List Column
columns_at name [] = []
columns_at name (c ∷ places) = slice_index_or (table_for name).columns (c - 1) (text []) ∷ columns_at name places

-- there is one value for each of these columns, NULL or of its type
abbrev pub FitsColumns : TableName → List ℕ → Row → Type 0
FitsColumns name places values = fits (columns_at name places) values ≡ true

-- the rows with these values in the columns of the query
abbrev pub rows_asked : RowsBy → Row → List (List Row) → List Row
rows_asked query values lists = filter (equal_from 0 (columns_asked query) values) (table_at (place_of (table_asked query)) lists)

-- all rows of a table
abbrev pub all_rows_of : TableName → List (List Row) → List Row
all_rows_of name = table_at (place_of name)

-- the SELECT of the query; the parameters are the values
abbrev pub query_text : RowsBy → List ℕ
query_text by.VehicleJourney = codes "SELECT order_id, manufacturer, serial, start, first, base, sent, confirmed, seen FROM journey WHERE manufacturer = ?1 AND serial = ?2"
query_text by.OrderActs = codes "SELECT order_id, n, job, kind, place_at, status FROM act WHERE order_id = ?1"
query_text by.OrderLegs = codes "SELECT order_id, k, edge FROM leg WHERE order_id = ?1"
query_text by.StationLoads = codes "SELECT id, kind, station, manufacturer, serial FROM load WHERE station = ?1"
query_text by.LoadJobs = codes "SELECT id, load, origin, target, phase FROM job WHERE load = ?1 AND phase = ?2"

-- the SELECT of all rows of a table
abbrev pub all_rows_text : TableName → List ℕ
all_rows_text the.Meta = codes "SELECT id, schema FROM meta"
all_rows_text the.Node = codes "SELECT id FROM node"
all_rows_text the.Edge = codes "SELECT id, start, finish FROM edge"
all_rows_text the.Station = codes "SELECT id, node, capacity FROM station"
all_rows_text the.Vehicle = codes "SELECT manufacturer, serial, node, rest_edge, rest_node, last_header, reported, ready, paused, order_header, order_at, instant_header, instant_at, pending FROM vehicle"
all_rows_text the.Trip = codes "SELECT order_id, manufacturer, serial, job, start, first, base, sent, confirmed, seen, pick_at, drop_at, pick_status, drop_status FROM trip"
all_rows_text the.Leg = codes "SELECT order_id, k, edge FROM leg"
all_rows_text the.Load = codes "SELECT id, kind, station, manufacturer, serial FROM load"
all_rows_text the.Job = codes "SELECT id, load, origin, target, phase FROM job"
all_rows_text the.Hold = codes "SELECT kind, id, manufacturer, serial FROM hold"
all_rows_text the.Used = codes "SELECT kind, id FROM used"
all_rows_text the.Capacity = codes "SELECT manufacturer, serial, capacity FROM capacity"
all_rows_text the.Journey = codes "SELECT order_id, manufacturer, serial, start, first, base, sent, confirmed, seen FROM journey"
all_rows_text the.Act = codes "SELECT order_id, n, job, kind, place_at, status FROM act"
