use Rattle.std.proofs.Common.{◌↔◌, [], ◌∷◌, IsTrue, subst}
use Rattle.agv_store_schema.specs.DeskRows.{AreKeyed}
use Rattle.agv_store_read.proofs.RowidsTold.{keyed_error, keyed_rows}
use Rattle.agv_store_read.proofs.rowid_reading.query_keyed.Goals as goal

pub returns-in_err-rows : goal.returns-in_err-rows
returns-in_err-rows g c =
    keyed_error g.S.Store c.args.conn.now c.find_rowids.new.conn c.find_rowids.ensures.idle c.find_rowids.ensures.survives (c.args.table ∷ []) c.from_residual.result c.in_err-rows.field-0.0 c.from_residual.ensures.1 c.in_err-rows.ensures.failed
    (λ clean stored desk stand has. c.in_err-rows.ensures.caused clean stored desk stand has)

pub returns : goal.returns
returns g c =
    keyed_rows g.S.Store c.args.conn.now c.find_rowids.new.conn c.find_rowids.ensures.idle c.find_rowids.ensures.survives c.in_ok-rows.ensures.kept c.args.table c.in_ok-rows.rows.items c.in_ok-keyed.keyed c.in_ok-rows.ensures.shown
    (subst (λ rows. IsTrue c.in_ok-keyed.keyed ↔ AreKeyed rows) c.as_slice.ensures.value c.in_ok-keyed.ensures)
