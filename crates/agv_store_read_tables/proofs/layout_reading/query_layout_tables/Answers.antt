use Rattle.std.proofs.Common.{Ok}
use Rattle.agv_store_read.proofs.AskingAll.{all_passes, all_then, all_then_follows, all_then_passes}
use Rattle.agv_store_read_tables.proofs.layout_reading.query_layout_tables.Goals as goal

pub returns-in_err-nodes : goal.returns-in_err-nodes
returns-in_err-nodes g c = all_passes g.S.Store c.args.conn.now c.query_nodes.new.conn c.in_err-nodes.field-0.0 _ _ _ _ c.from_residual.result c.from_residual.ensures.1 c.in_err-nodes.ensures

pub returns-in_err-edges : goal.returns-in_err-edges
returns-in_err-edges g c =
    all_then_passes g.S.Store c.args.conn.now c.query_nodes.new.conn c.query_edges.new.conn c.in_ok-nodes.nodes _ _ c.in_ok-nodes.ensures
    c.in_err-edges.field-0.0 _ _ _ _ c.from_residual-in_err-edges.result c.from_residual-in_err-edges.ensures.1 c.in_err-edges.ensures

pub returns-in_err-stations : goal.returns-in_err-stations
returns-in_err-stations g c =
    all_then_passes g.S.Store c.args.conn.now c.query_edges.new.conn c.query_stations.new.conn c.in_ok-edges.edges _ _
    (all_then g.S.Store c.args.conn.now c.query_nodes.new.conn c.query_edges.new.conn c.in_ok-nodes.nodes _ _ c.in_ok-nodes.ensures (Ok c.in_ok-edges.edges) _ _ c.in_ok-edges.ensures)
    c.in_err-stations.field-0.0 _ _ _ _ c.from_residual-in_err-stations.result c.from_residual-in_err-stations.ensures.1 c.in_err-stations.ensures

pub returns : goal.returns
returns g c =
    all_then_follows g.S.Store c.args.conn.now c.query_edges.new.conn c.query_stations.new.conn c.in_ok-edges.edges _ _
    (all_then g.S.Store c.args.conn.now c.query_nodes.new.conn c.query_edges.new.conn c.in_ok-nodes.nodes _ _ c.in_ok-nodes.ensures (Ok c.in_ok-edges.edges) _ _ c.in_ok-edges.ensures)
    c.in_ok-stations.stations _ _ _ _ (Ok (c.in_ok-nodes.nodes, c.in_ok-edges.edges, c.in_ok-stations.stations)) tt
    (λ world lawful two three. (two.0, two.1, three)) (λ lists two three. (two.0, two.1, three)) c.in_ok-stations.ensures
