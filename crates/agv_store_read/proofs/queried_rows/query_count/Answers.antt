use Rattle.std.proofs.Common.{ap, ◌∙◌}
use Rattle.sqlite.specs.Values.{bound}
use Rattle.agv_store_read.specs.FirstRow.{first_number_in}
use Rattle.agv_store_sql.specs.CountQueries.{count_shown}
use Rattle.agv_store_read.proofs.Asking.{follows, tells_error, tells_rows}
use Rattle.agv_store_read.proofs.CountAnswers.{tells_count}
use Rattle.agv_store_read.proofs.queried_rows.query_count.Goals as goal

pub returns-in_err-rows : goal.returns-in_err-rows
returns-in_err-rows g c =
    tells_error g.S.Store c.args.conn.now c.find_count.new.conn _ c.from_residual.result c.in_err-rows.field-0.0 c.from_residual.ensures.1
    c.in_err-rows.ensures.failed (λ clean stored desk is has. c.in_err-rows.ensures.caused clean stored desk is has c.requires) c.find_count.ensures.idle c.find_count.ensures.survives

pub returns : goal.returns
returns g c =
    follows g.S.Store c.args.conn.now c.find_count.new.conn c.in_ok-rows.rows _ _ c.number_in_rows.result
    (λ world lawful shown. tells_count world lawful c.args.by (bound c.args.values.now) c.in_ok-rows.rows.items shown c.number_in_rows.result (c.number_in_rows.ensures ∙ ap first_number_in c.as_slice.ensures.value))
    (tells_rows g.S.Store c.args.conn.now c.find_count.new.conn (count_shown c.args.by (bound c.args.values.now)) c.in_ok-rows.rows c.in_ok-rows.ensures.shown c.in_ok-rows.ensures.kept c.find_count.ensures.idle c.find_count.ensures.survives)
