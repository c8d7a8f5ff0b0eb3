use Rattle.std.proofs.Common.{Ok}
use Rattle.agv_store_read.proofs.AskingAll.{all_passes, all_then_follows, all_then_passes}
use Rattle.agv_store_read_tables.proofs.world_reading.query_traffic_tables.Goals as goal

pub returns-in_err-vehicles : goal.returns-in_err-vehicles
returns-in_err-vehicles g c = all_passes g.S.Store c.args.conn.now c.query_vehicles.new.conn c.in_err-vehicles.field-0.0 _ _ _ _ c.from_residual.result c.from_residual.ensures.1 c.in_err-vehicles.ensures

pub returns-in_err-legs : goal.returns-in_err-legs
returns-in_err-legs g c =
    all_then_passes g.S.Store c.args.conn.now c.query_vehicles.new.conn c.query_legs.new.conn c.in_ok-vehicles.vehicles _ _ c.in_ok-vehicles.ensures
    c.in_err-legs.field-0.0 _ _ _ _ c.from_residual-in_err-legs.result c.from_residual-in_err-legs.ensures.1 c.in_err-legs.ensures

pub returns : goal.returns
returns g c =
    all_then_follows g.S.Store c.args.conn.now c.query_vehicles.new.conn c.query_legs.new.conn c.in_ok-vehicles.vehicles _ _ c.in_ok-vehicles.ensures
    c.in_ok-legs.legs _ _ _ _ (Ok (c.in_ok-vehicles.vehicles, c.in_ok-legs.legs)) tt (λ world lawful one two. (one, two)) (λ lists one two. (one.0, one.1, two)) c.in_ok-legs.ensures
