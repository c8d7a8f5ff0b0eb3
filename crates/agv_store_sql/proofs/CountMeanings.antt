-- What the texts that count rows mean, wherever the desk's tables stand.
use Rattle.std.proofs.Common.{◌≡◌, ℕ, true, List, [], ◌∷◌, length, Some, None, codes, refl, sym, subst}
use Rattle.std.specs.List.{list_all}
use Rattle.sqlite_value.specs.Order.{Row, column}
use Rattle.sqlite_sql.specs.Term.{Term}
use Rattle.sqlite_schema.specs.declared.schema.Kind.TheVariants as kind
use Rattle.sqlite_tied.specs.Compute.{everything}
use Rattle.agv_store_schema.specs.DeskRows.{TableKeys, is_of_kind, rowid_column_of, table_written, width_of}
use Rattle.agv_store_sql.specs.CountQueries.{columns_counted, count_text, table_counted}
use Rattle.agv_store_sql.specs.RowQueries.{FitsColumns, columns_at, equal_from}
use Rattle.agv_store_schema.specs.declared.rows_counted.RowsCounted.{RowsCounted}
use Rattle.agv_store_schema.specs.declared.rows_counted.RowsCounted.TheVariants as counted
use Rattle.agv_store_schema.specs.declared.table_name.TableName.TheVariants as the
use Rattle.agv_store_schema.proofs.OneTable.{counting, is_param, their_count}
use Rattle.agv_store_sql.proofs.sql.OneTableTexts.{read_means, read_whole}
use Rattle.agv_store_sql.proofs.sql.QueryRows.{passes, reads_within}
use Rattle.agv_store_sql.proofs.sql.ReadFailing.{IsTypedIn, IsWholeText, fits_at, text_compares}
use Rattle.agv_store_sql.proofs.sql.Selecting.{IsSelectText, read_selects}
use Rattle.agv_store_sql.proofs.QueryMeanings.{AsksIn}
use Rattle.agv_store_sql.proofs.RowMeanings.{ReadsText, no_keys}

-- the columns that are counted by equal the parameters
abbrev pub count_terms : RowsCounted → List Term
count_terms counted.StationLoads = is_param 3 0 ∷ []
count_terms counted.VehicleLoads = is_param 4 0 ∷ is_param 5 1 ∷ []
count_terms counted.TargetJobs = is_param 4 0 ∷ is_param 5 1 ∷ []

abbrev pub count_names : List (List ℕ)
count_names = codes "count(*)" ∷ []

pub count_passes : (query : RowsCounted) (values : Row) → passes (count_terms query) values ≡ equal_from 0 (columns_counted query) values
count_passes counted.StationLoads values = refl
count_passes counted.VehicleLoads values = refl
count_passes counted.TargetJobs values = refl

pub count_within : (query : RowsCounted) → list_all (reads_within (width_of (table_counted query))) (count_terms query) ≡ true
count_within counted.StationLoads = refl
count_within counted.VehicleLoads = refl
count_within counted.TargetJobs = refl

pub count_no_rowid_column : (query : RowsCounted) (keys : TableKeys) → rowid_column_of (table_counted query) keys ≡ None
count_no_rowid_column counted.StationLoads keys = refl
count_no_rowid_column counted.VehicleLoads keys = refl
count_no_rowid_column counted.TargetJobs keys = refl

-- what SQL reads of the text
abbrev ReadsCount : RowsCounted → Type 0
ReadsCount query = (keys : TableKeys)
    → ReadsText (Some counting) (table_counted query) keys (count_text query) (length (columns_at (table_counted query) (columns_counted query))) (count_terms query) their_count count_names (None ∷ [])

-- each text is evaluated here: in a clause it would be evaluated twice
record EachCount : Type 0 where
  station_loads : ReadsCount counted.StationLoads
  vehicle_loads : ReadsCount counted.VehicleLoads
  target_jobs : ReadsCount counted.TargetJobs

counts : EachCount
unfolding everything
counts = record {
  station_loads = λ keys tree. refl;
  vehicle_loads = λ keys tree. refl;
  target_jobs = λ keys tree. refl;
}

count_reads : (query : RowsCounted) → ReadsCount query
count_reads counted.StationLoads = counts.station_loads
count_reads counted.VehicleLoads = counts.vehicle_loads
count_reads counted.TargetJobs = counts.target_jobs

-- SQL takes the text for a query of the table that shows how many rows pass
pub count_asks : (query : RowsCounted) → AsksIn (Some counting) (table_counted query) (count_text query) (count_terms query) their_count count_names
count_asks query s at tree keys stands =
    let name = table_counted query in
    read_means s (table_written name tree keys) at stands (count_text query) (length (columns_at name (columns_counted query))) (Some counting) (count_terms query) their_count count_names (None ∷ []) (count_reads query keys tree)

pub count_typed : (query : RowsCounted) (params : Row) → FitsColumns (table_counted query) (columns_counted query) params → IsTypedIn (Some counting) (table_counted query) (count_terms query) their_count params
count_typed counted.StationLoads params h =
    let k0 : is_of_kind kind.Text (column params 0) ≡ true = fits_at (columns_at the.Load (columns_counted counted.StationLoads)) params h 0 _ refl in
    rw (text_compares (column params 0) k0)
count_typed counted.VehicleLoads params h =
    let k0 : is_of_kind kind.Text (column params 0) ≡ true = fits_at (columns_at the.Load (columns_counted counted.VehicleLoads)) params h 0 _ refl in
    let k1 : is_of_kind kind.Text (column params 1) ≡ true = fits_at (columns_at the.Load (columns_counted counted.VehicleLoads)) params h 1 _ refl in
    rw (text_compares (column params 0) k0, text_compares (column params 1) k1)
count_typed counted.TargetJobs params h =
    let k0 : is_of_kind kind.Text (column params 0) ≡ true = fits_at (columns_at the.Job (columns_counted counted.TargetJobs)) params h 0 _ refl in
    let k1 : is_of_kind kind.Text (column params 1) ≡ true = fits_at (columns_at the.Job (columns_counted counted.TargetJobs)) params h 1 _ refl in
    rw (text_compares (column params 0) k0, text_compares (column params 1) k1)

pub count_whole : (query : RowsCounted) → IsWholeText (count_text query) (length (columns_at (table_counted query) (columns_counted query)))
count_whole query = read_whole (table_written (table_counted query) 0 no_keys) (count_text query) _ _ (count_reads query no_keys 0)

pub count_selects : (query : RowsCounted) (sql : List ℕ) → sql ≡ count_text query → IsSelectText sql
count_selects query sql text = subst IsSelectText (sym text) (read_selects (table_written (table_counted query) 0 no_keys) (count_text query) _ _ (count_reads query no_keys 0))
