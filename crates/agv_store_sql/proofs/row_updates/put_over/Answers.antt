use Rattle.std.proofs.Common.{ℕ, List, OnOk, subst, sym}
use Rattle.sqlite.specs.Held.{state}
use Rattle.sqlite.specs.Values.{bound}
use Rattle.agv_store_schema.specs.DeskRows.{Makes, table_for, with_put_by}
use Rattle.agv_store_sql.specs.RowUpdates.{Counts, IsKeyOf}
use Rattle.agv_store_schema.proofs.StatesKept.{on_ok}
use Rattle.agv_store_sql.proofs.UpdateMeanings.{over_more, over_none, over_one}
use Rattle.agv_store_sql.proofs.WritesThen.{retold, writes_then}
use Rattle.agv_store_sql.proofs.row_updates.put_over.Goals as goal

pub returns-in-0 : goal.returns-in-0
returns-in-0 g c =
    let name = c.args.table in
    let columns = (table_for name).primary in
    let key = bound c.args.key.now in
    let row = bound c.args.row.now in
    let first = state g.S.Store c.args.tx.now.conn.now in
    let mid = state g.S.Store c.update_row.new.tx.conn.now in
    let last = state g.S.Store c.insert_row.new.tx.conn.now in
    writes_then g.S.Store c.in_ok-count.ensures.writes c.insert_row.ensures.writes (λ early over added fit same is_key.
    let none : Counts name columns row first 0 = subst (λ (n : ℕ). Counts name columns row first n) c.in-0.is (c.in_ok-count.ensures.counted early fit) in
    subst (λ (cs : List ℕ). OnOk c.insert_row.result (Makes (with_put_by name cs key row) first last)) (sym same)
    (on_ok c.insert_row.result (over_none name columns key row (subst (λ (cs : List ℕ). IsKeyOf cs key row) same is_key) first mid last none (over fit)) (added fit)))

pub returns-in-1 : goal.returns-in-1
returns-in-1 g c =
    let name = c.args.table in
    let columns = (table_for name).primary in
    let key = bound c.args.key.now in
    let row = bound c.args.row.now in
    let first = state g.S.Store c.args.tx.now.conn.now in
    let mid = state g.S.Store c.update_row.new.tx.conn.now in
    retold g.S.Store c.in_ok-count.ensures.writes (λ clean over fit same is_key.
    let one : Counts name columns row first 1 = subst (λ (n : ℕ). Counts name columns row first n) c.in-1.is (c.in_ok-count.ensures.counted clean fit) in
    subst (λ (cs : List ℕ). Makes (with_put_by name cs key row) first mid) (sym same)
    (over_one name columns key row (subst (λ (cs : List ℕ). IsKeyOf cs key row) same is_key) first mid one (over fit)))

pub returns-in_default : goal.returns-in_default
returns-in_default g c =
    let name = c.args.table in
    let columns = (table_for name).primary in
    let key = bound c.args.key.now in
    let row = bound c.args.row.now in
    let first = state g.S.Store c.args.tx.now.conn.now in
    let mid = state g.S.Store c.update_row.new.tx.conn.now in
    let last = state g.S.Store c.put_row.new.tx.conn.now in
    writes_then g.S.Store c.in_ok-count.ensures.writes c.put_row.ensures (λ _ over again fit same is_key.
    subst (λ (cs : List ℕ). OnOk c.put_row.result (Makes (with_put_by name cs key row) first last)) (sym same)
    (on_ok c.put_row.result (over_more name columns key row (subst (λ (cs : List ℕ). IsKeyOf cs key row) same is_key) first mid last (over fit))
    (subst (λ (cs : List ℕ). OnOk c.put_row.result (Makes (with_put_by name cs key row) mid last)) same (again fit))))
