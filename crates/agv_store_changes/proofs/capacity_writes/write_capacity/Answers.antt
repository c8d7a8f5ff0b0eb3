use Rattle.std.proofs.Common.{◌≡◌, [], ◌∷◌, rules, sym, subst, ◌∙◌}
use Rattle.sqlite.specs.Held.{state}
use Rattle.agv_store_rows.specs.Columns.{vehicle_capacity_columns}
use Rattle.agv_store_schema.specs.DeskRows.{Answers, rows_of_key, table_for, with_put}
use Rattle.agv_store_rows.specs.RowKeys.{vehicle_key}
use Rattle.agv_store_schema.specs.declared.table_name.TableName.TheVariants as the
use Rattle.agv_store_changes.proofs.RowsStay.{makes_after, rows_stay}
use Rattle.agv_store_schema.proofs.StatesKept.{on_ok}
use Rattle.agv_store_sql.proofs.WritesThen.{then_writes}
use Rattle.agv_store_changes.proofs.capacity_writes.write_capacity.Goals as goal

pub returns-then-is_only_capacity : goal.returns-then-is_only_capacity
returns-then-is_only_capacity g c = record {
  same_reference = search rules;
  survives = search rules;
  kept = search rules;
  made = λ clean inside.
      let key = vehicle_key c.args.key.now in
      let capacity = vehicle_capacity_columns c.args.key.now c.args.vehicle.now in
      let first = state g.S.Store c.args.tx.now.conn.now in
      let rows = c.in_ok-rows.rows.items in
      let are : rows ≡ capacity ∷ [] = sym c.as_slice.ensures.value ∙ c.is_only_capacity.ensures c.if-is_only_capacity.true in
      let shown = subst (λ k. Answers (rows_of_key the.Capacity k) first rows) c.vehicle_key_values.ensures (c.in_ok-rows.ensures.shown clean) in
      rows_stay the.Capacity (table_for the.Capacity).primary key (capacity ∷ []) first (state g.S.Store c.find_rows_inside.new.tx.conn.now) (c.in_ok-rows.ensures.unchanged clean) inside
      (subst (Answers (rows_of_key the.Capacity key) first) are shown);
}

pub returns : goal.returns
returns g c =
    then_writes g.S.Store c.find_rows_inside.ensures.same_reference c.find_rows_inside.ensures.survives c.find_rows_inside.ensures.kept c.put_capacity.ensures (λ early puts inside.
    on_ok c.put_capacity.result (makes_after (with_put the.Capacity (vehicle_key c.args.key.now) (vehicle_capacity_columns c.args.key.now c.args.vehicle.now)) _ _ _ (c.in_ok-rows.ensures.unchanged early) inside) puts)
