use Rattle.std.proofs.Common.{Ok}
use Rattle.agv_store_read.proofs.AskingAll.{all_passes, all_then_follows, all_then_passes}
use Rattle.agv_store_read_tables.proofs.world_reading.query_stock_tables.Goals as goal

pub returns-in_err-places : goal.returns-in_err-places
returns-in_err-places g c = all_passes g.S.Store c.args.conn.now c.query_places.new.conn c.in_err-places.field-0.0 _ _ _ _ c.from_residual.result c.from_residual.ensures.1 c.in_err-places.ensures

pub returns-in_err-used : goal.returns-in_err-used
returns-in_err-used g c =
    all_then_passes g.S.Store c.args.conn.now c.query_places.new.conn c.query_used.new.conn c.in_ok-places.places _ _ c.in_ok-places.ensures
    c.in_err-used.field-0.0 _ _ _ _ c.from_residual-in_err-used.result c.from_residual-in_err-used.ensures.1 c.in_err-used.ensures

pub returns : goal.returns
returns g c =
    all_then_follows g.S.Store c.args.conn.now c.query_places.new.conn c.query_used.new.conn c.in_ok-places.places _ _ c.in_ok-places.ensures
    c.in_ok-used.used _ _ _ _ (Ok (c.in_ok-places.places, c.in_ok-used.used)) tt (λ world lawful one two. (one, two)) (λ lists one two. (one, two)) c.in_ok-used.ensures
