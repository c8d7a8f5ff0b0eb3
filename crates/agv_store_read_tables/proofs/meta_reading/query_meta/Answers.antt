use Rattle.std.proofs.Common.{ap, ◌∙◌}
use Rattle.agv_store_read.specs.TableChecks.{meta_read}
use Rattle.agv_store_read.proofs.AskingAll.{all_follows, all_passes}
use Rattle.agv_store_read_tables.proofs.MetaAnswers.{meta_no_storage, shows_meta, tells_meta}
use Rattle.agv_store_read_tables.proofs.meta_reading.query_meta.Goals as goal

pub returns-in_err-rows : goal.returns-in_err-rows
returns-in_err-rows g c = all_passes g.S.Store c.args.conn.now c.query_all_rows.new.conn c.in_err-rows.field-0.0 _ _ _ _ c.from_residual.result c.from_residual.ensures.1 c.in_err-rows.ensures

pub returns : goal.returns
returns g c =
    let read = c.meta_in_rows.ensures ∙ ap meta_read c.as_slice.ensures.value in
    all_follows g.S.Store c.args.conn.now c.query_all_rows.new.conn c.in_ok-rows.rows _ _ _ _ c.meta_in_rows.result (meta_no_storage c.in_ok-rows.rows.items c.meta_in_rows.result read)
    (λ world lawful shown. tells_meta world c.in_ok-rows.rows.items shown c.meta_in_rows.result read) (λ lists shown. shows_meta _ c.in_ok-rows.rows.items c.meta_in_rows.result read shown) c.in_ok-rows.ensures
