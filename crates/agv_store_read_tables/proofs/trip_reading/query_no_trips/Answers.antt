use Rattle.std.proofs.Common.{◌∙◌, nat_eq, Err, Ok, ap, sym}
use Rattle.agv_store_read.specs.declared.open_fault.OpenFault.TheVariants as fault
use Rattle.agv_store_read.proofs.AskingAll.{all_follows, all_passes}
use Rattle.agv_store_read_tables.proofs.TripTableAnswers.{none_shown, tells_no_trips}
use Rattle.agv_store_read_tables.proofs.trip_reading.query_no_trips.Goals as goal

pub returns-in_err-rows : goal.returns-in_err-rows
returns-in_err-rows g c = all_passes g.S.Store c.args.conn.now c.query_all_rows.new.conn c.in_err-rows.field-0.0 _ _ _ _ c.from_residual.result c.from_residual.ensures.1 c.in_err-rows.ensures

pub returns-then-is_empty : goal.returns-then-is_empty
returns-then-is_empty g c =
    all_follows g.S.Store c.args.conn.now c.query_all_rows.new.conn c.in_ok-rows.rows _ _ _ _ (Ok tt) tt
    (λ world lawful shown. tt) (λ lists shown. none_shown _ c.in_ok-rows.rows.items (ap (λ n. nat_eq n 0) (sym c.in_ok-rows.rows.ok.0) ∙ sym c.is_empty.ensures ∙ c.if-is_empty.true) shown) c.in_ok-rows.ensures

pub returns : goal.returns
returns g c =
    all_follows g.S.Store c.args.conn.now c.query_all_rows.new.conn c.in_ok-rows.rows _ _ _ _ (Err fault.Damaged) (λ is. cc is)
    (λ world lawful shown. tells_no_trips world c.in_ok-rows.rows.items shown (ap (λ n. nat_eq n 0) (sym c.in_ok-rows.rows.ok.0) ∙ sym c.is_empty.ensures ∙ c.if-is_empty.false)) (λ lists shown. tt) c.in_ok-rows.ensures
