use Rattle.std.proofs.Common.{◌≡◌, ◌≤◌, length, take}
use Rattle.agv_layout.specs.Rows.{nodes_in, edges_in, stations_in}
use Rattle.agv_layout.proofs.row.are_over_limit.Given as goal

abbrev pub invariant-loop-row : goal.invariant-loop-row
invariant-loop-row l = record {
  nodes : l.nodes ≡ length (nodes_in (take l.row-index l.rows));
  edges : l.edges ≡ length (edges_in (take l.row-index l.rows));
  stations : l.stations ≡ length (stations_in (take l.row-index l.rows));
  few_nodes : l.nodes ≤ l.row-index;
  few_edges : l.edges ≤ l.row-index;
  few_stations : l.stations ≤ l.row-index;
}
