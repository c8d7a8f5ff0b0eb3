use Rattle.agv_store_sql.specs.RowQueries.{all_rows_of}
use Rattle.agv_store_read.proofs.Asking.{tells_rows}
use Rattle.agv_store_read.proofs.AskingAll.{all_error, all_rows}
use Rattle.agv_store_schema.proofs.DeskPlaces.{one_stands}
use Rattle.agv_store_read.proofs.all_rows.query_all_rows.Goals as goal

pub returns-in_err-rows : goal.returns-in_err-rows
returns-in_err-rows g c =
    all_error g.S.Store c.args.conn.now c.find_all_rows.new.conn c.in_err-rows.field-0.0 _ _ c.from_residual.result c.from_residual.ensures.1
    c.in_err-rows.ensures.failed (λ clean stored desk is has. c.in_err-rows.ensures.caused clean stored desk (one_stands desk is c.args.table) has) c.find_all_rows.ensures.idle c.find_all_rows.ensures.survives

pub returns : goal.returns
returns g c =
    all_rows g.S.Store c.args.conn.now c.find_all_rows.new.conn (all_rows_of c.args.table) c.in_ok-rows.rows _ c.in_ok-rows.ensures.shown
    (tells_rows g.S.Store c.args.conn.now c.find_all_rows.new.conn (all_rows_of c.args.table) c.in_ok-rows.rows c.in_ok-rows.ensures.shown c.in_ok-rows.ensures.kept c.find_all_rows.ensures.idle c.find_all_rows.ensures.survives)
