use Rattle.std.proofs.Common.{List, OnOk, subst}
use Rattle.sqlite_value.specs.Order.{Row}
use Rattle.sqlite.specs.Held.{state}
use Rattle.agv_order.specs.declared.act.Act.{Act}
use Rattle.agv_store_rows.specs.TripRows.{act_rows_from, journey_of}
use Rattle.agv_store_rows.specs.Columns.{journey_columns}
use Rattle.agv_store_schema.specs.DeskRows.{Makes, with_put, with_rows}
use Rattle.agv_store_rows.specs.RowKeys.{name_key}
use Rattle.agv_store_rows.specs.Rows.{rows_of_acts, without_acts}
use Rattle.agv_store_schema.specs.declared.table_name.TableName.TheVariants as the
use Rattle.agv_store_schema.proofs.StatesKept.{on_ok}
use Rattle.agv_store_sql.proofs.DeskStatements.{makes_then}
use Rattle.agv_store_sql.proofs.WritesThen.{writes_then}
use Rattle.agv_store_changes.proofs.change_writes.write_open_trip.Goals as goal

pub returns : goal.returns
returns g c =
    let order = c.args.order.now in
    let trip = c.args.trip.now in
    let first = state g.S.Store c.args.tx.now.conn.now in
    let put = state g.S.Store c.put_journey.new.tx.conn.now in
    let last = state g.S.Store c.write_acts.new.tx.conn.now in
    let writes : List Act → List (List Row) → List (List Row) = λ acts lists. with_rows the.Act (rows_of_acts (act_rows_from order 0 acts)) (without_acts order lists) in
    writes_then g.S.Store c.in_ok-put_journey.ensures c.write_acts.ensures (λ _ journey rest.
    let puts : Makes (with_put the.Journey (name_key order) (journey_columns order (journey_of trip))) first put =
    subst (λ journey. Makes (with_put the.Journey (name_key order) (journey_columns order journey)) first put) c.of.ensures journey in
    let acts : OnOk c.write_acts.result (Makes (writes trip.acts) put last) = subst (λ acts. OnOk c.write_acts.result (Makes (writes acts) put last)) c.as_slice.ensures (rest puts.mode) in
    on_ok c.write_acts.result (makes_then (with_put the.Journey (name_key order) (journey_columns order (journey_of trip))) (writes trip.acts) first put last puts) acts)
