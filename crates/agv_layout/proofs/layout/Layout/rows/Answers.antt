use Rattle.std.proofs.Common.{◌++◌, List, map, ap, ◌∙◌}
use Rattle.agv_layout.specs.declared.row.LayoutRow.{LayoutRow}
use Rattle.agv_layout.specs.declared.row.LayoutRow.TheVariants as row
use Rattle.agv_layout.specs.LayoutOf.{edge_row, station_row, rows_in}
use Rattle.agv_layout.proofs.RowsBack.{rows_listed}
use Rattle.agv_layout.proofs.layout.Layout.rows.Goals as goal

pub returns : goal.returns
returns c =
    let inside = c.self.inside in
    let nodes = λ (rows : List LayoutRow). rows ++ map row.Node inside.nodes.keys in
    let edges = λ (rows : List LayoutRow). rows ++ map edge_row inside.edges.entries in
    let stations = λ (rows : List LayoutRow). rows ++ map station_row inside.stations.entries in
    record {
      rows = c.in_ok-push_stations.ensures.items
          ∙ ap stations (c.in_ok-push_edges.ensures.items ∙ ap edges (c.in_ok-push_nodes.ensures.items ∙ ap nodes c.new-rows.ensures.items))
          ∙ rows_listed inside c.push_nodes.ensures.ordered c.push_edges.ensures.ordered c.push_stations.ensures.ordered
          ∙ ap rows_in c.self.view_is;
    }
