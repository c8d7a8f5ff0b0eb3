use Rattle.std.proofs.Common.{Ok}
use Rattle.agv_store_read.proofs.AskingAll.{all_passes, all_then, all_then_follows, all_then_passes}
use Rattle.agv_store_read_tables.proofs.world_reading.read_tables.Goals as goal

pub returns-in_err-layout : goal.returns-in_err-layout
returns-in_err-layout g c = all_passes g.S.Store c.args.conn.now c.query_layout_tables.new.conn c.in_err-layout.field-0.0 _ _ _ _ c.from_residual.result c.from_residual.ensures.1 c.in_err-layout.ensures

pub returns-in_err-traffic : goal.returns-in_err-traffic
returns-in_err-traffic g c =
    all_then_passes g.S.Store c.args.conn.now c.query_layout_tables.new.conn c.query_traffic_tables.new.conn c.in_ok-layout.layout _ _ c.in_ok-layout.ensures
    c.in_err-traffic.field-0.0 _ _ _ _ c.from_residual-in_err-traffic.result c.from_residual-in_err-traffic.ensures.1 c.in_err-traffic.ensures

pub returns-in_err-work : goal.returns-in_err-work
returns-in_err-work g c =
    all_then_passes g.S.Store c.args.conn.now c.query_traffic_tables.new.conn c.query_trips.new.conn c.in_ok-traffic.traffic _ _
    (all_then g.S.Store c.args.conn.now c.query_layout_tables.new.conn c.query_traffic_tables.new.conn c.in_ok-layout.layout _ _ c.in_ok-layout.ensures (Ok c.in_ok-traffic.traffic) _ _ c.in_ok-traffic.ensures)
    c.in_err-work.field-0.0 _ _ _ _ c.from_residual-in_err-work.result c.from_residual-in_err-work.ensures.1 c.in_err-work.ensures

pub returns-in_err-stock : goal.returns-in_err-stock
returns-in_err-stock g c =
    all_then_passes g.S.Store c.args.conn.now c.query_trips.new.conn c.query_stock_tables.new.conn c.in_ok-work.work _ _
    (all_then g.S.Store c.args.conn.now c.query_traffic_tables.new.conn c.query_trips.new.conn c.in_ok-traffic.traffic _ _
    (all_then g.S.Store c.args.conn.now c.query_layout_tables.new.conn c.query_traffic_tables.new.conn c.in_ok-layout.layout _ _ c.in_ok-layout.ensures (Ok c.in_ok-traffic.traffic) _ _ c.in_ok-traffic.ensures)
    (Ok c.in_ok-work.work) _ _ c.in_ok-work.ensures)
    c.in_err-stock.field-0.0 _ _ _ _ c.from_residual-in_err-stock.result c.from_residual-in_err-stock.ensures.1 c.in_err-stock.ensures

pub returns : goal.returns
returns g c =
    all_then_follows g.S.Store c.args.conn.now c.query_trips.new.conn c.query_stock_tables.new.conn c.in_ok-work.work _ _
    (all_then g.S.Store c.args.conn.now c.query_traffic_tables.new.conn c.query_trips.new.conn c.in_ok-traffic.traffic _ _
    (all_then g.S.Store c.args.conn.now c.query_layout_tables.new.conn c.query_traffic_tables.new.conn c.in_ok-layout.layout _ _ c.in_ok-layout.ensures (Ok c.in_ok-traffic.traffic) _ _ c.in_ok-traffic.ensures)
    (Ok c.in_ok-work.work) _ _ c.in_ok-work.ensures)
    c.in_ok-stock.stock _ _ _ _ (Ok _) tt
    (λ world lawful before stock.
    let layout = before.0.0 in
    let traffic = before.0.1 in
    let work = before.1 in
    record {
      nodes = layout.0;
      edges = layout.1;
      stations = layout.2;
      vehicles = traffic.0;
      trips = work.1;
      legs = traffic.1;
      loads = stock.0;
      jobs = work.0;
      used = stock.1;
    })
    (λ lists before stock.
    let layout = before.0.0 in
    let traffic = before.0.1 in
    let work = before.1 in
    record {
      nodes = layout.0;
      edges = layout.1;
      stations = layout.2;
      vehicles = traffic.0;
      legs = traffic.2;
      loads = stock.0;
      jobs = work.0;
      used = stock.1;
      capacities = traffic.1;
      journeys = work.1;
      acts = work.2;
      trips = work.3;
    })
    c.in_ok-stock.ensures
