use Rattle.sqlite.specs.Values.{bound}
use Rattle.agv_store_schema.specs.DeskRows.{rows_of_key}
use Rattle.agv_store_read.proofs.Asking.{tells_error, tells_rows}
use Rattle.agv_store_read.proofs.queried_rows.query_rows.Goals as goal

pub returns-in_err-rows : goal.returns-in_err-rows
returns-in_err-rows g c =
    tells_error g.S.Store c.args.conn.now c.find_rows.new.conn _ c.from_residual.result c.in_err-rows.field-0.0 c.from_residual.ensures.1
    c.in_err-rows.ensures.failed (λ clean stored desk is has. c.in_err-rows.ensures.caused clean stored desk is has c.requires.fits) c.find_rows.ensures.idle c.find_rows.ensures.survives

pub returns : goal.returns
returns g c = tells_rows g.S.Store c.args.conn.now c.find_rows.new.conn (rows_of_key c.args.table (bound c.args.key.now)) c.in_ok-rows.rows c.in_ok-rows.ensures.shown c.in_ok-rows.ensures.kept c.find_rows.ensures.idle c.find_rows.ensures.survives
