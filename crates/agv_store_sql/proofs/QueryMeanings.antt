-- What the texts that ask for rows mean, wherever the desk's tables stand.
use Rattle.std.proofs.Common.{◌≡◌, ℕ, zero, suc, true, List, [], ◌∷◌, length, drop, Option, None, Some, refl}
use Rattle.std.specs.List.{list_all}
use Rattle.sqlite_value.specs.declared.keys.Collation.{Collation}
use Rattle.sqlite_value.specs.Order.{Row}
use Rattle.sqlite_sql.specs.Term.{Term, col}
use Rattle.sqlite_draft.specs.declared.query.Grouping.{Grouping}
use Rattle.sqlite_schema.specs.declared.schema.Schema.{Schema}
use Rattle.sqlite_schema.specs.declared.command.Command.TheVariants.{Select}
use Rattle.sqlite_tied.specs.Compute.{everything}
use Rattle.agv_store_schema.specs.DeskRows.{RowidColumn, TableKeys, rowid_column_of, table_for, table_written, width_of}
use Rattle.agv_store_sql.specs.RowQueries.{table_asked, columns_asked, columns_at, equal_from, query_text, all_rows_text}
use Rattle.agv_store_schema.specs.declared.rows_by.RowsBy.{RowsBy}
use Rattle.agv_store_schema.specs.declared.rows_by.RowsBy.TheVariants as by
use Rattle.agv_store_schema.specs.declared.table_name.TableName.{TableName}
use Rattle.agv_store_schema.specs.declared.table_name.TableName.TheVariants as the
use Rattle.agv_store_schema.proofs.OneTable.{IsIn, Means, is_param, query_by, query_in}
use Rattle.agv_store_sql.proofs.sql.OneTableTexts.{read_means}
use Rattle.agv_store_sql.proofs.sql.QueryRows.{passes, reads_within}
use Rattle.agv_store_sql.proofs.RowMeanings.{ReadsRows, ReadsText, collations, column_names, column_terms, from_slot}

-- SQL takes the text for a query of the table that shows these terms, under these names, of the rows that pass these tests, or of the groups of these rows
abbrev pub AsksIn : Option Grouping → TableName → List ℕ → List Term → List Term → List (List ℕ) → Type 0
AsksIn group name sql terms project names = (s : Schema) (at tree : ℕ) (keys : TableKeys) → IsIn s (table_for name).name (table_written name tree keys) at → Means s sql (Select (record { lets = []; body = query_in group tree terms project }) names)

-- of the rows themselves
abbrev pub AsksFor : TableName → List ℕ → List Term → List Term → List (List ℕ) → Type 0
AsksFor = AsksIn None

-- the same that shows all columns
abbrev pub Asks : TableName → List ℕ → List Term → Type 0
Asks name sql terms = AsksFor name sql terms (column_terms name) (column_names name)

-- the columns that are asked by equal the parameters
abbrev pub query_terms : RowsBy → List Term
query_terms by.VehicleJourney = is_param 2 0 ∷ is_param 3 1 ∷ []
query_terms by.OrderActs = is_param 1 0 ∷ []
query_terms by.OrderLegs = is_param 1 0 ∷ []
query_terms by.StationLoads = is_param 3 0 ∷ []
query_terms by.LoadJobs = is_param 2 0 ∷ is_param 5 1 ∷ []

pub query_passes : (query : RowsBy) (values : Row) → passes (query_terms query) values ≡ equal_from 0 (columns_asked query) values
query_passes by.VehicleJourney values = refl
query_passes _ values = refl

pub query_within : (query : RowsBy) → list_all (reads_within (width_of (table_asked query))) (query_terms query) ≡ true
query_within by.VehicleJourney = refl
query_within _ = refl

-- what SQL reads of the text
abbrev pub ReadsQuery : RowsBy → Type 0
ReadsQuery query = (keys : TableKeys) → ReadsRows (table_asked query) keys (query_text query) (columns_asked query) (query_terms query)

-- each text is evaluated here: in a clause it would be evaluated twice
record EachQuery : Type 0 where
  vehicle_journey : ReadsQuery by.VehicleJourney
  order_acts : ReadsQuery by.OrderActs
  order_legs : ReadsQuery by.OrderLegs
  station_loads : ReadsQuery by.StationLoads
  load_jobs : ReadsQuery by.LoadJobs

queries : EachQuery
unfolding everything
queries = record {
  vehicle_journey = λ keys tree. refl;
  order_acts = λ keys tree. refl;
  order_legs = λ keys tree. refl;
  station_loads = λ keys tree. refl;
  load_jobs = λ keys tree. refl;
}

pub query_reads : (query : RowsBy) → ReadsQuery query
query_reads by.VehicleJourney = queries.vehicle_journey
query_reads by.OrderActs = queries.order_acts
query_reads by.OrderLegs = queries.order_legs
query_reads by.StationLoads = queries.station_loads
query_reads by.LoadJobs = queries.load_jobs

pub query_asks : (query : RowsBy) → Asks (table_asked query) (query_text query) (query_terms query)
query_asks query s at tree keys stands =
    let name = table_asked query in
    read_means s (table_written name tree keys) at stands (query_text query) (length (columns_at name (columns_asked query))) None (query_terms query) (column_terms name) (column_names name) (collations name) (query_reads query keys tree)

pub query_no_rowid_column : (query : RowsBy) (keys : TableKeys) → rowid_column_of (table_asked query) keys ≡ None
query_no_rowid_column by.VehicleJourney keys = refl
query_no_rowid_column _ keys = refl

-- ---- all rows of a table

-- what shows the columns of an entry: the rowid, where that is the first of them
abbrev pub terms_by : Option RowidColumn → ℕ → List Term
terms_by None width = from_slot 1 1 width
terms_by (Some first) zero = col 1 0 ∷ []
terms_by (Some first) (suc width) = col 1 0 ∷ from_slot 1 2 width

abbrev pub shown_terms : TableName → TableKeys → List Term
shown_terms name keys = terms_by (rowid_column_of name keys) (width_of name)

-- SQL takes the text for a query of the table that shows all its rows
abbrev pub ShowsAll : TableName → TableKeys → Type 0
ShowsAll name keys = (s : Schema) (at tree : ℕ) → IsIn s (table_for name).name (table_written name tree keys) at
    → Means s (all_rows_text name) (Select (record { lets = []; body = query_by tree [] (shown_terms name keys) }) (column_names name))

-- how each column is compared, where the first of them is the rowid or is not
abbrev shown_collations : Option RowidColumn → List (Option Collation) → List (Option Collation)
shown_collations None all = all
shown_collations (Some first) all = None ∷ drop 1 all

-- what SQL reads of the text
abbrev ReadsAll : TableName → TableKeys → Type 0
ReadsAll name keys = ReadsText None name keys (all_rows_text name) 0 [] (shown_terms name keys) (column_names name) (shown_collations (rowid_column_of name keys) (collations name))

-- `meta`, whether its first column is the rowid or not
abbrev meta_by : List ℕ → List (List ℕ) → Option RowidColumn → TableKeys
meta_by primary indexed rowid = record { primary = primary; indexed = indexed; rowid_column = rowid }

record EachTable : Type 0 where
  meta : (primary : List ℕ) (indexed : List (List ℕ)) → ReadsAll the.Meta (meta_by primary indexed None)
  meta_by_rowid : (primary : List ℕ) (indexed : List (List ℕ)) (first : RowidColumn) → ReadsAll the.Meta (meta_by primary indexed (Some first))
  node : (keys : TableKeys) → ReadsAll the.Node keys
  edge : (keys : TableKeys) → ReadsAll the.Edge keys
  station : (keys : TableKeys) → ReadsAll the.Station keys
  vehicle : (keys : TableKeys) → ReadsAll the.Vehicle keys
  trip : (keys : TableKeys) → ReadsAll the.Trip keys
  leg : (keys : TableKeys) → ReadsAll the.Leg keys
  load : (keys : TableKeys) → ReadsAll the.Load keys
  job : (keys : TableKeys) → ReadsAll the.Job keys
  hold : (keys : TableKeys) → ReadsAll the.Hold keys
  used : (keys : TableKeys) → ReadsAll the.Used keys
  capacity : (keys : TableKeys) → ReadsAll the.Capacity keys
  journey : (keys : TableKeys) → ReadsAll the.Journey keys
  act : (keys : TableKeys) → ReadsAll the.Act keys

tables : EachTable
unfolding everything
tables = record {
  meta = λ primary indexed tree. refl;
  meta_by_rowid = λ primary indexed first tree. refl;
  node = λ keys tree. refl;
  edge = λ keys tree. refl;
  station = λ keys tree. refl;
  vehicle = λ keys tree. refl;
  trip = λ keys tree. refl;
  leg = λ keys tree. refl;
  load = λ keys tree. refl;
  job = λ keys tree. refl;
  hold = λ keys tree. refl;
  used = λ keys tree. refl;
  capacity = λ keys tree. refl;
  journey = λ keys tree. refl;
  act = λ keys tree. refl;
}

meta_read : (primary : List ℕ) (indexed : List (List ℕ)) (rowid : Option RowidColumn) → ReadsAll the.Meta (meta_by primary indexed rowid)
meta_read primary indexed None = tables.meta primary indexed
meta_read primary indexed (Some first) = tables.meta_by_rowid primary indexed first

pub all_rows_read : (name : TableName) (keys : TableKeys) → ReadsAll name keys
all_rows_read the.Meta keys = meta_read keys.primary keys.indexed keys.rowid_column
all_rows_read the.Node keys = tables.node keys
all_rows_read the.Edge keys = tables.edge keys
all_rows_read the.Station keys = tables.station keys
all_rows_read the.Vehicle keys = tables.vehicle keys
all_rows_read the.Trip keys = tables.trip keys
all_rows_read the.Leg keys = tables.leg keys
all_rows_read the.Load keys = tables.load keys
all_rows_read the.Job keys = tables.job keys
all_rows_read the.Hold keys = tables.hold keys
all_rows_read the.Used keys = tables.used keys
all_rows_read the.Capacity keys = tables.capacity keys
all_rows_read the.Journey keys = tables.journey keys
all_rows_read the.Act keys = tables.act keys

pub all_rows_asked : (name : TableName) (keys : TableKeys) → ShowsAll name keys
all_rows_asked name keys s at tree stands =
    read_means s (table_written name tree keys) at stands (all_rows_text name) 0 None [] (shown_terms name keys) (column_names name) (shown_collations (rowid_column_of name keys) (collations name)) (all_rows_read name keys tree)
