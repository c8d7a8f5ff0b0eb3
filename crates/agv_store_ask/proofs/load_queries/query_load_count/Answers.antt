use Rattle.std.proofs.Common.{refl, sym, subst, ◌∙◌}
use Rattle.agv_store_sql.specs.CountQueries.{columns_counted, table_counted}
use Rattle.agv_store_sql.specs.RowQueries.{FitsColumns}
use Rattle.agv_store_schema.specs.declared.rows_counted.RowsCounted.TheVariants as counted
use Rattle.agv_store_read.proofs.Asking.{tells}
use Rattle.agv_store_ask.proofs.LoadAnswers.{counts_loads_at}
use Rattle.agv_store_ask.proofs.load_queries.query_load_count.Goals as goal

pub query_count-requires : goal.query_count-requires
query_count-requires g c = subst (FitsColumns (table_counted counted.StationLoads) (columns_counted counted.StationLoads)) (sym c.name_key_values.ensures) refl

pub returns : goal.returns
returns g c = tells g.S.Store c.args.conn.now c.query_count.new.conn _ _ c.query_count.result (λ world lawful count is. is ∙ counts_loads_at world lawful c.args.station.now _ c.name_key_values.ensures) c.query_count.ensures
