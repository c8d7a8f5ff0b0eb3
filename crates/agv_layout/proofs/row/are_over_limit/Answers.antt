use Rattle.std.proofs.Common.{arith, ap}
use Rattle.agv_layout.specs.Rows.{node_in, edge_in, station_in}
use Rattle.agv_layout.proofs.Rows.{counted, passed}
use Rattle.agv_layout.proofs.row.are_over_limit.Goals as goal
use Rattle.agv_layout.proofs.row.are_over_limit.Goals.{in-Node, in-Edge, in-Station}

pub loop-row-preserved : goal.loop-row-preserved
loop-row-preserved c =
    let rows = c.args.rows.now in
    let i = c.loop-row.row-index in
    let row = c.row-item.result in
    let so_far = c.loop-row.invariant in
    elim c.match-row.branch [
      | in-Node w ↦ record {
        nodes = counted node_in rows i row c.loop-row-test.true c.row-item.is _ _ _ (ap node_in w.in-Node.is) so_far.nodes w.nodes-is;
        edges = passed edge_in rows i row c.loop-row-test.true c.row-item.is _ _ (ap edge_in w.in-Node.is) so_far.edges w.edges-is;
        stations = passed station_in rows i row c.loop-row-test.true c.row-item.is _ _ (ap station_in w.in-Node.is) so_far.stations w.stations-is;
        few_nodes = omega arith;
        few_edges = omega arith;
        few_stations = omega arith;
      }
      | in-Edge w ↦ record {
        nodes = passed node_in rows i row c.loop-row-test.true c.row-item.is _ _ (ap node_in w.in-Edge.is) so_far.nodes w.nodes-is;
        edges = counted edge_in rows i row c.loop-row-test.true c.row-item.is _ _ _ (ap edge_in w.in-Edge.is) so_far.edges w.edges-is;
        stations = passed station_in rows i row c.loop-row-test.true c.row-item.is _ _ (ap station_in w.in-Edge.is) so_far.stations w.stations-is;
        few_nodes = omega arith;
        few_edges = omega arith;
        few_stations = omega arith;
      }
      | in-Station w ↦ record {
        nodes = passed node_in rows i row c.loop-row-test.true c.row-item.is _ _ (ap node_in w.in-Station.is) so_far.nodes w.nodes-is;
        edges = passed edge_in rows i row c.loop-row-test.true c.row-item.is _ _ (ap edge_in w.in-Station.is) so_far.edges w.edges-is;
        stations = counted station_in rows i row c.loop-row-test.true c.row-item.is _ _ _ (ap station_in w.in-Station.is) so_far.stations w.stations-is;
        few_nodes = omega arith;
        few_edges = omega arith;
        few_stations = omega arith;
      }
    ]
