use Rattle.std.proofs.Common.{◌≡◌, ◌∙◌, IsTrue, sym, subst}
use Rattle.sqlite.specs.Held.{state}
use Rattle.agv_store_rows.specs.TripRows.{act_rows_from}
use Rattle.agv_store_changes.specs.ActRows.{AreOfOrder, acts_listed}
use Rattle.agv_store_schema.specs.DeskRows.{Answers, with_rows}
use Rattle.agv_store_rows.specs.Rows.{rows_of_acts, without_acts}
use Rattle.agv_store_sql.specs.RowQueries.{rows_asked}
use Rattle.agv_store_schema.specs.declared.rows_by.RowsBy.TheVariants as by
use Rattle.agv_store_schema.specs.declared.table_name.TableName.TheVariants as the
use Rattle.agv_store_changes.proofs.ActsPut.{still_answers}
use Rattle.agv_store_changes.proofs.RowsStay.{makes_after}
use Rattle.agv_store_schema.proofs.StatesKept.{on_ok}
use Rattle.agv_store_sql.proofs.WritesThen.{then_writes}
use Rattle.agv_store_changes.proofs.act_writes.write_acts.Goals as goal

pub returns-then-are_of_acts : goal.returns-then-are_of_acts
returns-then-are_of_acts g c =
    let order = c.args.order.now in
    let first = state g.S.Store c.args.tx.now.conn.now in
    let found = state g.S.Store c.find_rows_by_inside.new.tx.conn.now in
    let rows = c.as_slice-then-are_of_acts.result.now in
    let are_those : c.as_slice.result.now ≡ rows = c.as_slice.ensures.value ∙ sym c.as_slice-then-are_of_acts.ensures.value in
    let are : AreOfOrder order 0 rows = subst (AreOfOrder order 0) are_those (c.are_of_acts.ensures c.if-are_of_acts.true).1 in
    then_writes g.S.Store c.find_rows_by_inside.ensures.same_reference c.find_rows_by_inside.ensures.survives c.find_rows_by_inside.ensures.kept c.put_acts.ensures (λ early puts inside.
    let same = c.in_ok-rows.ensures.unchanged early in
    let shown : Answers (acts_listed order) first rows =
    subst (Answers (acts_listed order) first) (sym c.as_slice-then-are_of_acts.ensures.value) (subst (λ k. Answers (rows_asked by.OrderActs k) first c.in_ok-rows.rows.items) c.name_key_values.ensures (c.in_ok-rows.ensures.shown early)) in
    on_ok c.put_acts.result
    (makes_after (λ lists. with_rows the.Act (rows_of_acts (act_rows_from order 0 c.args.acts.now)) (without_acts order lists)) first found _ same inside)
    (puts (subst IsTrue (sym same.0.mode) inside) are (still_answers (acts_listed order) first found rows same shown)))

pub returns : goal.returns
returns g c =
    then_writes g.S.Store c.find_rows_by_inside.ensures.same_reference c.find_rows_by_inside.ensures.survives c.find_rows_by_inside.ensures.kept c.renew_acts.ensures (λ early renews inside.
    on_ok c.renew_acts.result
    (makes_after (λ lists. with_rows the.Act (rows_of_acts (act_rows_from c.args.order.now 0 c.args.acts.now)) (without_acts c.args.order.now lists)) _ _ _ (c.in_ok-rows.ensures.unchanged early) inside) renews)
