use Rattle.std.proofs.Common.{subst}
use Rattle.std.specs.FinMap as map
use Rattle.std.specs.Cmp.Lexicographic.{nat_list_cmp_total}
use Rattle.agv_store_rows.specs.Columns.{job_columns, job_in}
use Rattle.agv_store_read.specs.ReadTables.{Reads, read_rows}
use Rattle.agv_store_read.proofs.AskingAll.{all_follows, all_passes, reads_no_storage}
use Rattle.agv_store_rows.proofs.ColumnsWritten.{job_written}
use Rattle.agv_store_rows.proofs.ListsFollow.{names_apart}
use Rattle.agv_store_read_tables.proofs.TableAnswers.{tells_jobs}
use Rattle.agv_store_read.proofs.TablesBack.{shows_table}
use Rattle.agv_store_read_tables.proofs.table_reading.query_jobs.Goals as goal

pub returns-in_err-rows : goal.returns-in_err-rows
returns-in_err-rows g c = all_passes g.S.Store c.args.conn.now c.query_all_rows.new.conn c.in_err-rows.field-0.0 _ _ _ _ c.from_residual.result c.from_residual.ensures.1 c.in_err-rows.ensures

pub returns : goal.returns
returns g c =
    let read = subst (λ rows. Reads c.jobs_in_rows.result (read_rows job_in map.empty rows)) c.as_slice.ensures.value c.jobs_in_rows.ensures in
    all_follows g.S.Store c.args.conn.now c.query_all_rows.new.conn c.in_ok-rows.rows _ _ _ _ c.jobs_in_rows.result (reads_no_storage c.jobs_in_rows.result (read_rows job_in map.empty c.in_ok-rows.rows.items) read)
    (λ world lawful shown. tells_jobs world lawful c.in_ok-rows.rows.items shown c.jobs_in_rows.result read)
    (λ lists shown. shows_table nat_list_cmp_total names_apart job_columns job_in job_written _ c.in_ok-rows.rows.items c.jobs_in_rows.result read shown)
    c.in_ok-rows.ensures
