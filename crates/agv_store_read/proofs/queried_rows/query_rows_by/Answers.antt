use Rattle.sqlite.specs.Values.{bound}
use Rattle.agv_store_sql.specs.RowQueries.{rows_asked}
use Rattle.agv_store_read.proofs.Asking.{tells_error, tells_rows}
use Rattle.agv_store_read.proofs.queried_rows.query_rows_by.Goals as goal

pub returns-in_err-rows : goal.returns-in_err-rows
returns-in_err-rows g c =
    tells_error g.S.Store c.args.conn.now c.find_rows_by.new.conn _ c.from_residual.result c.in_err-rows.field-0.0 c.from_residual.ensures.1
    c.in_err-rows.ensures.failed (λ clean stored desk is has. c.in_err-rows.ensures.caused clean stored desk is has c.requires) c.find_rows_by.ensures.idle c.find_rows_by.ensures.survives

pub returns : goal.returns
returns g c = tells_rows g.S.Store c.args.conn.now c.find_rows_by.new.conn (rows_asked c.args.by (bound c.args.values.now)) c.in_ok-rows.rows c.in_ok-rows.ensures.shown c.in_ok-rows.ensures.kept c.find_rows_by.ensures.idle c.find_rows_by.ensures.survives
