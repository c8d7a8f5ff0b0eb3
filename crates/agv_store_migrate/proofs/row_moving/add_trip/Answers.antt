use Rattle.std.proofs.Common.{◌≤◌, [], ◌∷◌, length, OnOk, subst}
use Rattle.sqlite.specs.Held.{state}
use Rattle.agv_store_rows.specs.TripRows.{act_rows, act_rows_from, journey_of}
use Rattle.agv_store_schema.specs.declared.table_name.TableName.TheVariants as the
use Rattle.agv_store_rows.specs.Columns.{journey_columns}
use Rattle.agv_store_schema.specs.DeskRows.{Makes, with_row, with_rows}
use Rattle.agv_store_rows.specs.Rows.{rows_of_acts}
use Rattle.agv_store_sql.specs.Refusals.{EndsInside, insertions}
use Rattle.agv_store_sql.proofs.Refusing.{FailInside, RunInside, ends_as, ends_then, fails_early}
use Rattle.agv_store_sql.proofs.WritesThen.{writes_then}
use Rattle.agv_store_migrate.proofs.MovingEach.{then_made}
use Rattle.agv_store_migrate.specs.MoveStatements.{trip_inserted}
use Rattle.agv_store_migrate.proofs.row_moving.add_trip.Goals as goal

pub returns-clause-made : goal.returns-clause-made
returns-clause-made g c =
    let order = c.args.order.now in
    let trip = c.args.trip.now in
    let first = state g.S.Store c.args.tx.now.conn.now in
    let mid = state g.S.Store c.add_journey.new.tx.conn.now in
    let last = state g.S.Store c.add_acts.new.tx.conn.now in
    writes_then g.S.Store c.in_ok-add_journey.ensures.made c.add_acts.ensures.made (λ _ journey acts.
    let puts : Makes (with_row the.Journey (journey_columns order (journey_of trip))) first mid =
    subst (λ journey. Makes (with_row the.Journey (journey_columns order journey)) first mid) c.of.ensures journey in
    let adds : OnOk c.add_acts.result (Makes (with_rows the.Act (rows_of_acts (act_rows order trip))) mid last) =
    subst (λ acts. OnOk c.add_acts.result (Makes (with_rows the.Act (rows_of_acts (act_rows_from order 0 acts))) mid last)) c.as_slice.ensures (acts puts.mode) in
    then_made (with_row the.Journey (journey_columns order (journey_of trip))) (with_rows the.Act (rows_of_acts (act_rows order trip))) first mid last c.add_acts.result puts adds)

pub returns-in_err-add_journey-clause-ends : goal.returns-in_err-add_journey-clause-ends
returns-in_err-add_journey-clause-ends g c few =
    let order = c.args.order.now in
    let trip = c.args.trip.now in
    let e = c.in_err-add_journey.field-0.0 in
    let fails : FailInside g.S.Store c.args.tx.now c.add_journey.new.tx (insertions the.Journey (journey_columns order (journey_of trip) ∷ [])) e =
    subst (λ journey. FailInside g.S.Store c.args.tx.now c.add_journey.new.tx (insertions the.Journey (journey_columns order journey ∷ [])) e) c.of.ensures c.in_err-add_journey.ensures.ends in
    ends_as g.S.Store c.args.tx.now c.add_journey.new.tx (trip_inserted (order, trip)) e c.from_residual.result c.from_residual.ensures.1
    (fails_early g.S.Store c.args.tx.now c.add_journey.new.tx (insertions the.Journey (journey_columns order (journey_of trip) ∷ [])) (insertions the.Act (rows_of_acts (act_rows order trip))) e fails)

pub returns-clause-ends : goal.returns-clause-ends
returns-clause-ends g c few =
    let order = c.args.order.now in
    let trip = c.args.trip.now in
    let journey : RunInside g.S.Store c.args.tx.now c.add_journey.new.tx (insertions the.Journey (journey_columns order (journey_of trip) ∷ [])) =
    subst (λ journey. RunInside g.S.Store c.args.tx.now c.add_journey.new.tx (insertions the.Journey (journey_columns order journey ∷ []))) c.of.ensures c.in_ok-add_journey.ensures.ends in
    let acts : EndsInside g.S.Store c.add_journey.new.tx c.add_acts.new.tx (insertions the.Act (rows_of_acts (act_rows order trip))) c.add_acts.result =
    subst (λ acts. length acts ≤ 4294967296 → EndsInside g.S.Store c.add_journey.new.tx c.add_acts.new.tx (insertions the.Act (rows_of_acts (act_rows_from order 0 acts))) c.add_acts.result) c.as_slice.ensures c.add_acts.ensures.ends few in
    ends_then g.S.Store c.args.tx.now c.add_journey.new.tx c.add_acts.new.tx (insertions the.Journey (journey_columns order (journey_of trip) ∷ [])) (insertions the.Act (rows_of_acts (act_rows order trip)))
    c.add_journey.ensures.made.survives c.add_acts.ensures.made.survives journey c.add_acts.result acts
