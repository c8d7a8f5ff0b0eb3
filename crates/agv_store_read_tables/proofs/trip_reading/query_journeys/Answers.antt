use Rattle.std.proofs.Common.{subst}
use Rattle.std.specs.FinMap as map
use Rattle.std.specs.Cmp.Lexicographic.{nat_list_cmp_total}
use Rattle.agv_store_rows.specs.Columns.{journey_columns, journey_in}
use Rattle.agv_store_read.specs.ReadTables.{Reads, read_rows}
use Rattle.agv_store_read.proofs.AskingAll.{all_follows, all_passes, reads_no_storage}
use Rattle.agv_store_rows.proofs.ColumnsWritten.{journey_written}
use Rattle.agv_store_rows.proofs.ListsFollow.{names_apart}
use Rattle.agv_store_read.proofs.TablesBack.{shows_table}
use Rattle.agv_store_read_tables.proofs.TripTableAnswers.{tells_journeys}
use Rattle.agv_store_read_tables.proofs.trip_reading.query_journeys.Goals as goal

pub returns-in_err-rows : goal.returns-in_err-rows
returns-in_err-rows g c = all_passes g.S.Store c.args.conn.now c.query_all_rows.new.conn c.in_err-rows.field-0.0 _ _ _ _ c.from_residual.result c.from_residual.ensures.1 c.in_err-rows.ensures

pub returns : goal.returns
returns g c =
    let read = subst (λ rows. Reads c.journeys_in_rows.result (read_rows journey_in map.empty rows)) c.as_slice.ensures.value c.journeys_in_rows.ensures in
    all_follows g.S.Store c.args.conn.now c.query_all_rows.new.conn c.in_ok-rows.rows _ _ _ _ c.journeys_in_rows.result (reads_no_storage c.journeys_in_rows.result (read_rows journey_in map.empty c.in_ok-rows.rows.items) read)
    (λ world lawful shown. tells_journeys world c.in_ok-rows.rows.items (c.rows_tell_trips.ensures.journeys world lawful) shown c.journeys_in_rows.result read)
    (λ lists shown. shows_table nat_list_cmp_total names_apart journey_columns journey_in journey_written _ c.in_ok-rows.rows.items c.journeys_in_rows.result read shown)
    c.in_ok-rows.ensures
