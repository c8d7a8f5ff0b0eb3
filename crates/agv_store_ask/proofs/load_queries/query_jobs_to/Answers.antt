use Rattle.std.proofs.Common.{refl, sym, subst, ◌∙◌}
use Rattle.agv_store_sql.specs.CountQueries.{columns_counted, table_counted}
use Rattle.agv_store_sql.specs.RowQueries.{FitsColumns}
use Rattle.agv_store_schema.specs.declared.rows_counted.RowsCounted.TheVariants as counted
use Rattle.agv_store_read.proofs.Asking.{tells}
use Rattle.agv_store_ask.proofs.JobAnswers.{counts_jobs_to}
use Rattle.agv_store_ask.proofs.load_queries.query_jobs_to.Goals as goal

pub query_count-requires : goal.query_count-requires
query_count-requires g c = subst (FitsColumns (table_counted counted.TargetJobs) (columns_counted counted.TargetJobs)) (sym c.name_and_phase_values.ensures) refl

pub returns : goal.returns
returns g c = tells g.S.Store c.args.conn.now c.query_count.new.conn _ _ c.query_count.result (λ world lawful count is. is ∙ counts_jobs_to world lawful c.args.station.now c.args.phase _ c.name_and_phase_values.ensures) c.query_count.ensures
