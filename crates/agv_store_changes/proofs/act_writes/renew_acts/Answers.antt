use Rattle.agv_store_rows.specs.TripRows.{act_rows_from}
use Rattle.agv_store_schema.specs.DeskRows.{with_rows}
use Rattle.agv_store_rows.specs.Rows.{rows_of_acts, without_acts}
use Rattle.agv_store_schema.specs.declared.table_name.TableName.TheVariants as the
use Rattle.agv_store_sql.proofs.DeskStatements.{makes_then}
use Rattle.agv_store_sql.proofs.WritesThen.{writes_then}
use Rattle.agv_store_changes.proofs.act_writes.renew_acts.Goals as goal

pub returns : goal.returns
returns g c =
    writes_then g.S.Store c.in_ok-drop_acts.ensures c.in_ok-add_acts.ensures.made
    (λ _ drops adds. makes_then (without_acts c.args.order.now) (with_rows the.Act (rows_of_acts (act_rows_from c.args.order.now 0 c.args.acts.now))) _ _ _ drops (adds drops.mode))
