use Rattle.std.proofs.Common.{◌≡◌, IsPermutation, subst}
use Rattle.std.specs.FinMap as map
use Rattle.agv_header.specs.ThingOrder.{thing_cmp-IsAntisymmetric, thing_cmp-total}
use Rattle.agv_world_core.specs.Maps.{maps_of}
use Rattle.agv_store_rows.specs.Columns.{hold_columns, hold_in}
use Rattle.agv_store_schema.specs.DeskRows.{place_of, table_at}
use Rattle.agv_store_read.specs.TableChecks.{table_read}
use Rattle.agv_store_read.specs.ReadTables.{Reads, read_rows}
use Rattle.agv_store_rows.specs.Rows.{rows_in}
use Rattle.agv_store_schema.specs.SchemaNumbers.{desk_seats}
use Rattle.agv_store_schema.specs.declared.table_name.TableName.TheVariants as the
use Rattle.agv_store_read.proofs.AskingAll.{all_follows, all_passes, reads_no_storage}
use Rattle.agv_store_rows.proofs.ColumnsWritten.{hold_written}
use Rattle.agv_store_read.proofs.HeldRead.{table_follows, table_if_ok, table_no_storage}
use Rattle.agv_store_read_tables.proofs.TableAnswers.{tells_holds}
use Rattle.agv_store_read.proofs.TablesBack.{shows_table}
use Rattle.agv_store_read_tables.proofs.hold_reading.query_holds.Goals as goal

pub returns-in_err-rows : goal.returns-in_err-rows
returns-in_err-rows g c = all_passes g.S.Store c.args.conn.now c.query_all_rows.new.conn c.in_err-rows.field-0.0 _ _ _ _ c.from_residual.result c.from_residual.ensures.1 c.in_err-rows.ensures

pub returns : goal.returns
returns g c =
    let read = subst (λ rows. Reads (table_read c.holds_in_rows.result) (read_rows hold_in map.empty rows)) c.as_slice.ensures.value c.holds_in_rows.ensures in
    all_follows g.S.Store c.args.conn.now c.query_all_rows.new.conn c.in_ok-rows.rows _ _ _ _ c.holds_in_rows.result
    (table_no_storage c.holds_in_rows.result (reads_no_storage (table_read c.holds_in_rows.result) (read_rows hold_in map.empty c.in_ok-rows.rows.items) read))
    (λ world lawful shown. table_follows c.holds_in_rows.result (λ table. table ≡ (maps_of world).holds) (tells_holds world lawful (c.has_consistent_trips.ensures desk_seats world lawful) c.in_ok-rows.rows.items shown (table_read c.holds_in_rows.result) read))
    (λ lists shown. table_if_ok c.holds_in_rows.result (λ table. IsPermutation (table_at (place_of the.Hold) lists) (rows_in hold_columns table)) (shows_table thing_cmp-total thing_cmp-IsAntisymmetric hold_columns hold_in hold_written _ c.in_ok-rows.rows.items (table_read c.holds_in_rows.result) read shown))
    c.in_ok-rows.ensures
