use Rattle.std.proofs.Common.{subst}
use Rattle.std.specs.FinSet as set
use Rattle.agv_world_core.specs.KeyOrders.{use_cmp-IsAntisymmetric, use_cmp-total}
use Rattle.agv_store_rows.specs.Columns.{used_columns, used_in}
use Rattle.agv_store_read.specs.ReadTables.{Reads, read_members}
use Rattle.agv_store_read.proofs.AskingAll.{all_follows, all_passes, reads_no_storage}
use Rattle.agv_store_rows.proofs.ColumnsWritten.{used_written}
use Rattle.agv_store_read_tables.proofs.TableAnswers.{tells_used_names}
use Rattle.agv_store_read.proofs.TablesBack.{shows_members}
use Rattle.agv_store_read_tables.proofs.world_tables.query_used.Goals as goal

pub returns-in_err-rows : goal.returns-in_err-rows
returns-in_err-rows g c = all_passes g.S.Store c.args.conn.now c.query_all_rows.new.conn c.in_err-rows.field-0.0 _ _ _ _ c.from_residual.result c.from_residual.ensures.1 c.in_err-rows.ensures

pub returns : goal.returns
returns g c =
    let read = subst (λ rows. Reads c.used_in_rows.result (read_members used_in set.empty rows)) c.as_slice.ensures.value c.used_in_rows.ensures in
    all_follows g.S.Store c.args.conn.now c.query_all_rows.new.conn c.in_ok-rows.rows _ _ _ _ c.used_in_rows.result (reads_no_storage c.used_in_rows.result (read_members used_in set.empty c.in_ok-rows.rows.items) read)
    (λ world lawful shown. tells_used_names world lawful c.in_ok-rows.rows.items shown c.used_in_rows.result read)
    (λ lists shown. shows_members use_cmp-total use_cmp-IsAntisymmetric used_columns used_in used_written _ c.in_ok-rows.rows.items c.used_in_rows.result read shown)
    c.in_ok-rows.ensures
