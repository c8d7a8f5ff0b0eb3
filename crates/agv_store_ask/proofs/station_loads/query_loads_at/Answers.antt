use Rattle.std.proofs.Common.{Err, Ok, refl, sym, subst, ◌∙◌}
use Rattle.std.specs.FinMap as map
use Rattle.agv_header.specs.Name.{name_cmp}
use Rattle.agv_stock.specs.declared.place.Place.{Place}
use Rattle.agv_store_rows.specs.Columns.{load_in}
use Rattle.agv_store_read.specs.ReadTables.{Reads, read_rows}
use Rattle.agv_store_sql.specs.RowQueries.{FitsColumns, columns_asked, table_asked}
use Rattle.agv_store_schema.specs.declared.rows_by.RowsBy.TheVariants as by
use Rattle.agv_store_read.proofs.Asking.{follows, passes}
use Rattle.agv_store_ask.proofs.StationLoads.{fails_there, names_told}
use Rattle.agv_store_read.proofs.TableReading.{runs_short}
use Rattle.agv_store_ask.proofs.station_loads.query_loads_at.Goals as goal

pub query_rows_by-requires : goal.query_rows_by-requires
query_rows_by-requires g c = subst (FitsColumns (table_asked by.StationLoads) (columns_asked by.StationLoads)) (sym c.name_key_values.ensures) refl

pub returns-in_err-rows : goal.returns-in_err-rows
returns-in_err-rows g c = passes g.S.Store c.args.conn.now c.query_rows_by.new.conn c.in_err-rows.field-0.0 _ _ c.from_residual.result c.from_residual.ensures.1 c.in_err-rows.ensures

pub returns-in_err-table : goal.returns-in_err-table
returns-in_err-table g c =
    follows g.S.Store c.args.conn.now c.query_rows_by.new.conn c.in_ok-rows.rows _ _ c.from_residual-in_err-table.result
    (λ world lawful shown. fails_there world lawful c.args.station.now _ c.name_key_values.ensures c.in_ok-rows.rows.items shown c.in_err-table.field-0.0
    (subst (λ rows. Reads {A = map.FinMap name_cmp Place} (Err c.in_err-table.field-0.0) (read_rows load_in map.empty rows)) c.as_slice.ensures.value c.in_err-table.ensures) c.from_residual-in_err-table.result c.from_residual-in_err-table.ensures.1 _)
    c.in_ok-rows.ensures

pub returns-in_err-names : goal.returns-in_err-names
returns-in_err-names g c =
    follows g.S.Store c.args.conn.now c.query_rows_by.new.conn c.in_ok-rows.rows _ _ c.from_residual-in_err-names.result
    (λ world lawful shown. runs_short c.from_residual-in_err-names.result c.from_residual-in_err-names.ensures.1 _) c.in_ok-rows.ensures

pub returns : goal.returns
returns g c =
    follows g.S.Store c.args.conn.now c.query_rows_by.new.conn c.in_ok-rows.rows _ _ (Ok c.in_ok-names.names)
    (λ world lawful shown. c.in_ok-names.ensures ∙ names_told world lawful c.args.station.now _ c.name_key_values.ensures c.in_ok-rows.rows.items shown c.in_ok-table.table
    (subst (λ rows. Reads {A = map.FinMap name_cmp Place} (Ok c.in_ok-table.table) (read_rows load_in map.empty rows)) c.as_slice.ensures.value c.in_ok-table.ensures))
    c.in_ok-rows.ensures
