use Rattle.std.proofs.Common.{[], ◌∷◌, ◌++◌, Err, Ok, ap, refl, sym, subst, ◌∙◌, arith}
use Rattle.std.specs.FinMap as map
use Rattle.agv_store_rows.specs.ActKeys.{act_cmp}
use Rattle.agv_store_rows.specs.declared.act_row.ActRow.{ActRow}
use Rattle.agv_store_rows.specs.Columns.{act_in}
use Rattle.agv_store_read.specs.ReadTables.{Reads, read_rows}
use Rattle.agv_store_sql.specs.RowQueries.{FitsColumns, columns_asked, table_asked}
use Rattle.agv_store_schema.specs.declared.rows_by.RowsBy.TheVariants as by
use Rattle.agv_store_read.proofs.Asking.{follows, passes, then_follows, then_passes}
use Rattle.agv_store_read.proofs.TableReading.{runs_short}
use Rattle.agv_store_ask.proofs.TripAnswers.{act_known, act_numbered, acts_begin, acts_end, acts_fail, acts_go_on}
use Rattle.agv_store_ask.proofs.trip_queries.query_acts.Goals as goal

pub query_rows_by-requires : goal.query_rows_by-requires
query_rows_by-requires g c = subst (FitsColumns (table_asked by.OrderActs) (columns_asked by.OrderActs)) (sym c.name_key_values.ensures) refl

pub returns-in_err-rows : goal.returns-in_err-rows
returns-in_err-rows g c = passes g.S.Store c.args.conn.now c.query_rows_by.new.conn c.in_err-rows.field-0.0 _ _ c.from_residual.result c.from_residual.ensures.1 c.in_err-rows.ensures

pub returns-in_err-table : goal.returns-in_err-table
returns-in_err-table g c =
    follows g.S.Store c.args.conn.now c.query_rows_by.new.conn c.in_ok-rows.rows _ _ c.from_residual-in_err-table.result
    (λ world lawful shown. acts_fail world (c.rows_tell_trips.ensures.act_values world lawful) c.args.order.now _ c.name_key_values.ensures c.in_ok-rows.rows.items shown c.in_err-table.field-0.0
    (subst (λ rows. Reads {A = map.FinMap act_cmp ActRow} (Err c.in_err-table.field-0.0) (read_rows act_in map.empty rows)) c.as_slice.ensures.value c.in_err-table.ensures) c.from_residual-in_err-table.result c.from_residual-in_err-table.ensures.1 _)
    c.in_ok-rows.ensures

pub loop-key-init : goal.loop-key-init
loop-key-init g c =
    follows g.S.Store c.args.conn.now c.query_rows_by.new.conn c.in_ok-rows.rows _ _ (Ok tt)
    (λ world lawful shown.
    let known = c.rows_tell_trips.ensures.acts world lawful c.args.order.now in
    acts_begin world (c.rows_tell_trips.ensures.act_values world lawful) c.args.order.now _ c.name_key_values.ensures c.in_ok-rows.rows.items shown known.0 known.1 c.in_ok-table.table
    (subst (λ rows. Reads {A = map.FinMap act_cmp ActRow} (Ok c.in_ok-table.table) (read_rows act_in map.empty rows)) c.as_slice.ensures.value c.in_ok-table.ensures)
    _ _ c.new-acts.ensures.items (c.into_iter-key-iterator.ensures.into_iter_gives ∙ c.iter-key-items.ensures))
    c.in_ok-rows.ensures

pub returns-then-key-len : goal.returns-then-key-len
returns-then-key-len g c =
    follows g.S.Store c.args.conn.now c.loop-key.conn tt _ _ (Err _)
    (λ world lawful goes.
    let numbered = act_numbered world c.args.order.now c.loop-key.acts.items c.loop-key.key-iterator _ _ goes c.in-Some.ensures.steps in
    let wrong : ⊥ = omega (arith, numbered, c.len.ensures, c.if-key-len.true) in
    wrong)
    c.loop-key.invariant

pub loop-key-preserved : goal.loop-key-preserved
loop-key-preserved g c =
    then_follows g.S.Store c.args.conn.now c.loop-key.conn c.query_job.new.conn tt _ c.loop-key.invariant c.in_ok-job.job _ _ (Ok tt)
    (λ world lawful goes is. acts_go_on world c.args.order.now c.loop-key.acts.items c.loop-key.key-iterator _ _ goes c.in-Some.ensures.steps c.in-Some-job.job (sym c.in-Some-job.is ∙ is) _
    (c.in_ok-push-in-Some-job.ensures.items ∙ ap (λ act. c.loop-key.acts.items ++ act ∷ []) c.act.ensures)) c.in_ok-job.ensures

pub returns-in_err-job : goal.returns-in_err-job
returns-in_err-job g c =
    then_passes g.S.Store c.args.conn.now c.loop-key.conn c.query_job.new.conn tt _ c.loop-key.invariant
    c.in_err-job.field-0.0 _ _ c.from_residual-in_err-job.result c.from_residual-in_err-job.ensures.1 c.in_err-job.ensures

pub returns-in-None-job : goal.returns-in-None-job
returns-in-None-job g c =
    then_follows g.S.Store c.args.conn.now c.loop-key.conn c.query_job.new.conn tt _ c.loop-key.invariant c.in_ok-job.job _ _ (Err _)
    (λ world lawful goes is. act_known world c.args.order.now c.loop-key.acts.items c.loop-key.key-iterator _ _ goes c.in-Some.ensures.steps (sym c.in-None-job.is ∙ is)) c.in_ok-job.ensures

pub returns-in_err-push-in-Some-job : goal.returns-in_err-push-in-Some-job
returns-in_err-push-in-Some-job g c =
    then_follows g.S.Store c.args.conn.now c.loop-key.conn c.query_job.new.conn tt _ c.loop-key.invariant c.in_ok-job.job _ _ c.from_residual-in_err-push-in-Some-job.result
    (λ world lawful goes is. runs_short c.from_residual-in_err-push-in-Some-job.result c.from_residual-in_err-push-in-Some-job.ensures.1 _) c.in_ok-job.ensures

pub returns : goal.returns
returns g c =
    follows g.S.Store c.args.conn.now c.loop-key.conn tt _ _ (Ok c.from.result)
    (λ world lawful goes. acts_end world c.args.order.now c.loop-key.acts.items c.loop-key.key-iterator goes c.in-None.ensures.steps.0 c.from.result c.from.ensures) c.loop-key.invariant
