use Rattle.std.proofs.Common.{refl, sym, ap, subst, ◌∙◌}
use Rattle.agv_store_rows.specs.Columns.{job_in}
use Rattle.agv_store_read.specs.FirstRow.{first_key_in}
use Rattle.agv_store_sql.specs.RowQueries.{FitsColumns, columns_asked, table_asked}
use Rattle.agv_store_schema.specs.declared.rows_by.RowsBy.TheVariants as by
use Rattle.agv_store_read.proofs.Asking.{follows, passes}
use Rattle.agv_store_ask.proofs.JobAnswers.{tells_job_in}
use Rattle.agv_store_ask.proofs.load_queries.query_job_in.Goals as goal

pub query_rows_by-requires : goal.query_rows_by-requires
query_rows_by-requires g c = subst (FitsColumns (table_asked by.LoadJobs) (columns_asked by.LoadJobs)) (sym c.name_and_phase_values.ensures) refl

pub returns-in_err-rows : goal.returns-in_err-rows
returns-in_err-rows g c = passes g.S.Store c.args.conn.now c.query_rows_by.new.conn c.in_err-rows.field-0.0 _ _ c.from_residual.result c.from_residual.ensures.1 c.in_err-rows.ensures

pub returns : goal.returns
returns g c =
    follows g.S.Store c.args.conn.now c.query_rows_by.new.conn c.in_ok-rows.rows _ _ c.job_name_in_rows.result
    (λ world lawful shown. tells_job_in world lawful c.args.load.now c.args.phase c.requires _ c.name_and_phase_values.ensures c.in_ok-rows.rows.items shown c.job_name_in_rows.result (c.job_name_in_rows.ensures ∙ ap (first_key_in job_in) c.as_slice.ensures.value))
    c.in_ok-rows.ensures
