use Rattle.agv_store_schema.specs.DeskRows.{without_key}
use Rattle.agv_store_rows.specs.RowKeys.{name_key}
use Rattle.agv_store_rows.specs.Rows.{without_acts}
use Rattle.agv_store_schema.specs.declared.table_name.TableName.TheVariants as the
use Rattle.agv_store_schema.proofs.StatesKept.{on_ok}
use Rattle.agv_store_sql.proofs.DeskStatements.{makes_then}
use Rattle.agv_store_sql.proofs.WritesThen.{writes_then}
use Rattle.agv_store_changes.proofs.change_writes.drop_trip.Goals as goal

pub returns : goal.returns
returns g c =
    writes_then g.S.Store c.in_ok-drop_journey.ensures c.drop_acts.ensures
    (λ _ gone. on_ok c.drop_acts.result (makes_then (without_key the.Journey (name_key c.args.order.now)) (without_acts c.args.order.now) _ _ _ gone))
