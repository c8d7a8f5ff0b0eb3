use Rattle.std.proofs.Common.{Err, None, Ok, sym, ◌∙◌}
use Rattle.agv_world_core.specs.Questions.{row_of}
use Rattle.agv_store_read.proofs.Asking.{follows, passes, then_follows, then_passes}
use Rattle.agv_store_ask.proofs.KeyAnswers.{joined, neither, not_one}
use Rattle.agv_store_ask.proofs.key_queries.query_vehicle.Goals as goal

pub returns-in_err-vehicle : goal.returns-in_err-vehicle
returns-in_err-vehicle g c = passes g.S.Store c.args.conn.now c.query_vehicle_row.new.conn c.in_err-vehicle.field-0.0 _ _ c.from_residual.result c.from_residual.ensures.1 c.in_err-vehicle.ensures

pub returns-in-None : goal.returns-in-None
returns-in-None g c =
    follows g.S.Store c.args.conn.now c.query_vehicle_row.new.conn c.in_ok-vehicle.vehicle _ _ (Ok None)
    (λ world lawful one. neither (row_of world c.args.key.now) (sym c.in-None.is ∙ one)) c.in_ok-vehicle.ensures

pub returns-in_err-capacity-in-Some : goal.returns-in_err-capacity-in-Some
returns-in_err-capacity-in-Some g c =
    then_passes g.S.Store c.args.conn.now c.query_vehicle_row.new.conn c.query_capacity.new.conn c.in_ok-vehicle.vehicle _ c.in_ok-vehicle.ensures
    c.in_err-capacity-in-Some.field-0.0 _ _ c.from_residual-in_err-capacity-in-Some.result c.from_residual-in_err-capacity-in-Some.ensures.1 c.in_err-capacity-in-Some.ensures

pub returns-in-None-capacity : goal.returns-in-None-capacity
returns-in-None-capacity g c =
    then_follows g.S.Store c.args.conn.now c.query_vehicle_row.new.conn c.query_capacity.new.conn c.in_ok-vehicle.vehicle _ c.in_ok-vehicle.ensures
    c.in_ok-capacity-in-Some.capacity _ _ (Err _)
    (λ world lawful one two. not_one (row_of world c.args.key.now) c.in-Some.vehicle (sym c.in-Some.is ∙ one) (sym c.in-None-capacity.is ∙ two)) c.in_ok-capacity-in-Some.ensures

pub returns-in-Some-capacity : goal.returns-in-Some-capacity
returns-in-Some-capacity g c =
    then_follows g.S.Store c.args.conn.now c.query_vehicle_row.new.conn c.query_capacity.new.conn c.in_ok-vehicle.vehicle _ c.in_ok-vehicle.ensures
    c.in_ok-capacity-in-Some.capacity _ _ (Ok _)
    (λ world lawful one two. joined (row_of world c.args.key.now) c.in-Some.vehicle c.in-Some-capacity.capacity (sym c.in-Some.is ∙ one) (sym c.in-Some-capacity.is ∙ two)) c.in_ok-capacity-in-Some.ensures
