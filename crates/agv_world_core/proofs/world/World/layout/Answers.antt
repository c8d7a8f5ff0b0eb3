use Rattle.std.proofs.Common.{◌≡◌, ◌++◌, List, map, ap, subst, ◌∙◌, append_assoc, IfOk}
use Rattle.std.specs.FinMap as finite
use Rattle.agv_layout.specs.LayoutOf.{layout_of, nodes_of, rows_in, edge_row, station_row}
use Rattle.agv_layout.specs.declared.row.LayoutRow.{LayoutRow}
use Rattle.agv_layout.specs.declared.row.LayoutRow.TheVariants as row
use Rattle.agv_world_core.specs.Questions.{given, layout_set}
use Rattle.agv_world_core.specs.Told.{layout_of_tables}
use Rattle.agv_world_core.proofs.world.World.layout.Goals as goal

pub returns : goal.returns
unfolding layout_set
returns c =
    let layout = layout_of_tables c.args.self.now in
    let nodes = map (λ id. row.Node id) (nodes_of layout) in
    let edges = map edge_row (finite.entries layout.edges) in
    let stations = map station_row (finite.entries layout.stations) in
    let listed : c.as_slice.result.now ≡ rows_in layout =
    c.as_slice.ensures.value
    ∙ c.in_ok-push_stations.ensures
    ∙ ap (λ rows. rows ++ stations) (c.in_ok-push_edges.ensures ∙ ap (λ rows. rows ++ edges) (c.in_ok-push_nodes.ensures ∙ ap (λ rows. rows ++ nodes) c.new-rows.ensures.items))
    ∙ append_assoc nodes edges stations in
    subst (λ (rows : List LayoutRow). IfOk c.layout_given.result (λ given_by. given_by ≡ given (layout_of rows))) listed c.layout_given.ensures
