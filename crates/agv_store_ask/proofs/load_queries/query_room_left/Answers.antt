use Rattle.std.proofs.Common.{Ok, ap₂, ◌∙◌}
use Rattle.agv_stock.specs.Rooms.{room_left}
use Rattle.agv_store_read.proofs.Asking.{passes, then_follows, then_passes}
use Rattle.agv_store_ask.proofs.load_queries.query_room_left.Goals as goal

pub returns-in_err-loads : goal.returns-in_err-loads
returns-in_err-loads g c = passes g.S.Store c.args.conn.now c.query_load_count.new.conn c.in_err-loads.field-0.0 _ _ c.from_residual.result c.from_residual.ensures.1 c.in_err-loads.ensures

pub returns-in_err-jobs : goal.returns-in_err-jobs
returns-in_err-jobs g c =
    then_passes g.S.Store c.args.conn.now c.query_load_count.new.conn c.query_reserved.new.conn c.in_ok-loads.loads _ c.in_ok-loads.ensures
    c.in_err-jobs.field-0.0 _ _ c.from_residual-in_err-jobs.result c.from_residual-in_err-jobs.ensures.1 c.in_err-jobs.ensures

pub returns : goal.returns
returns g c =
    then_follows g.S.Store c.args.conn.now c.query_load_count.new.conn c.query_reserved.new.conn c.in_ok-loads.loads _ c.in_ok-loads.ensures
    c.in_ok-jobs.jobs _ _ (Ok c.room_left.result) (λ world lawful one two. c.room_left.ensures ∙ ap₂ (room_left c.args.capacity) one two) c.in_ok-jobs.ensures
