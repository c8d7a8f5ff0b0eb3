use Rattle.std.proofs.Common.{sym, ap, subst, ◌∙◌}
use Rattle.agv_store_rows.specs.Columns.{hold_in}
use Rattle.agv_store_schema.specs.DeskRows.{table_for}
use Rattle.agv_store_read.specs.FirstRow.{first_in}
use Rattle.agv_store_sql.specs.RowQueries.{FitsColumns}
use Rattle.agv_store_schema.specs.declared.table_name.TableName.TheVariants as the
use Rattle.agv_store_read.proofs.Asking.{follows, passes}
use Rattle.agv_store_ask.proofs.KeyAnswers.{fits_hold, tells_holder}
use Rattle.agv_store_ask.proofs.key_queries.query_holder.Goals as goal

pub query_rows-requires-clause-fits : goal.query_rows-requires-clause-fits
query_rows-requires-clause-fits g c = subst (FitsColumns the.Hold (table_for the.Hold).primary) (sym c.hold_key_values.ensures) (fits_hold c.args.thing.now)

pub returns-in_err-rows : goal.returns-in_err-rows
returns-in_err-rows g c = passes g.S.Store c.args.conn.now c.query_rows.new.conn c.in_err-rows.field-0.0 _ _ c.from_residual.result c.from_residual.ensures.1 c.in_err-rows.ensures

pub returns : goal.returns
returns g c =
    follows g.S.Store c.args.conn.now c.query_rows.new.conn c.in_ok-rows.rows _ _ c.holder_in_rows.result
    (λ world lawful shown. tells_holder world lawful c.args.thing.now c.thing_is_named.ensures _ c.hold_key_values.ensures c.in_ok-rows.rows.items shown c.holder_in_rows.result (c.holder_in_rows.ensures ∙ ap (first_in hold_in) c.as_slice.ensures.value))
    c.in_ok-rows.ensures
