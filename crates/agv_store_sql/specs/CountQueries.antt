-- The counts of rows by columns other than the key, and their SQL texts.
use Rattle.std.specs.Prelude.{ℕ, List, [], ◌∷◌, length, filter, codes}
use Rattle.sqlite_value.specs.Order.{Row}
use Rattle.sqlite_sql.specs.Aggregate.{count}
use Rattle.agv_store_schema.specs.DeskRows.{place_of, table_at}
use Rattle.agv_store_sql.specs.RowQueries.{equal_from}
use Rattle.agv_store_schema.specs.declared.rows_counted.RowsCounted.{RowsCounted}
use Rattle.agv_store_schema.specs.declared.rows_counted.RowsCounted.TheVariants as counted
use Rattle.agv_store_schema.specs.declared.table_name.TableName.{TableName}
use Rattle.agv_store_schema.specs.declared.table_name.TableName.TheVariants as the

-- the table whose rows are counted
abbrev pub table_counted : RowsCounted → TableName
table_counted counted.StationLoads = the.Load
table_counted counted.VehicleLoads = the.Load
table_counted counted.TargetJobs = the.Job

-- the columns by which they are counted, numbered from 1
abbrev pub columns_counted : RowsCounted → List ℕ
columns_counted counted.StationLoads = 3 ∷ []
columns_counted counted.VehicleLoads = 4 ∷ 5 ∷ []
columns_counted counted.TargetJobs = 4 ∷ 5 ∷ []

-- the rows with these values in those columns
abbrev pub rows_counted : RowsCounted → Row → List (List Row) → List Row
rows_counted query values lists = filter (equal_from 0 (columns_counted query) values) (table_at (place_of (table_counted query)) lists)

-- the result of the count: one row with their number
abbrev pub count_shown : RowsCounted → Row → List (List Row) → List Row
count_shown query values lists = (count (length (rows_counted query values lists)) ∷ []) ∷ []

-- the SELECT that counts them; the parameters are the values
abbrev pub count_text : RowsCounted → List ℕ
count_text counted.StationLoads = codes "SELECT count(*) FROM load WHERE station = ?1"
count_text counted.VehicleLoads = codes "SELECT count(*) FROM load WHERE manufacturer = ?1 AND serial = ?2"
count_text counted.TargetJobs = codes "SELECT count(*) FROM job WHERE target = ?1 AND phase = ?2"
