-- The layout that rows give, or why they give none; and the rows of a layout (this project's profile).
use Rattle.std.specs.Prelude.{◌&&◌, ◌||◌, not, nat_eq, nat_lt, nat_le, Bool, true, List, [], ◌∷◌, ◌++◌, map, length, Result, Ok, Err, if◌then◌else◌, ⊤}
use Rattle.std.specs.BTreeMap.{is_at}
use Rattle.std.specs.Cmp.Lexicographic.{pointwise}
use Rattle.std.specs.FinMap as finite
use Rattle.std.specs.FinSet as set
use Rattle.std.specs.List.{list_all, list_any}
use Rattle.std.specs.Map.{keys_of, values_of}
use Rattle.agv_header.specs.Name.{name_cmp}
use Rattle.agv_layout.specs.Layout.{Name, Layout}
use Rattle.agv_layout.specs.Rows.{nodes_in, edges_in, stations_in}
use Rattle.agv_layout.specs.declared.edge.EdgeEnds.{EdgeEnds}
use Rattle.agv_layout.specs.declared.fault.LayoutFault.{LayoutFault}
use Rattle.agv_layout.specs.declared.fault.LayoutFault.TheVariants as fault
use Rattle.agv_layout.specs.declared.row.LayoutRow.{LayoutRow}
use Rattle.agv_layout.specs.declared.row.LayoutRow.TheVariants as row
use Rattle.agv_layout.specs.declared.station.StationSite.{StationSite}

-- the name is one of these
abbrev pub is_among : List Name → Name → Bool
is_among names id = list_any (λ name. is_at (name_cmp name) id) names

-- no two of the names are the same
abbrev pub differ : List Name → Bool
differ [] = true
differ (id ∷ ids) = not (is_among ids id) && differ ids

-- the edge leads from one of these nodes to another of them
abbrev pub leads_among : List Name → EdgeEnds → Bool
leads_among nodes ends = is_among nodes ends.start && (is_among nodes ends.finish && not (pointwise nat_eq ends.start ends.finish))

-- the station is at one of these nodes, and has room for 1 to 999 loads
abbrev pub stands_among : List Name → StationSite → Bool
stands_among nodes site = is_among nodes site.node && (nat_le 1 site.capacity && nat_le site.capacity 999)

-- there are more than 500 nodes, 1,500 edges or 500 stations
abbrev pub is_over_limit : List LayoutRow → Bool
is_over_limit rows = nat_lt 500 (length (nodes_in rows)) || (nat_lt 1500 (length (edges_in rows)) || nat_lt 500 (length (stations_in rows)))

-- no two nodes have the same id, no two edges, and no two stations
abbrev pub is_each_once : List LayoutRow → Bool
is_each_once rows = differ (nodes_in rows) && (differ (keys_of (edges_in rows)) && differ (keys_of (stations_in rows)))

-- there is a node, each id is once in its kind, and edges and stations are at listed nodes
abbrev pub is_sound : List LayoutRow → Bool
is_sound rows =
    nat_le 1 (length (nodes_in rows))
    && (is_each_once rows
    && (list_all (leads_among (nodes_in rows)) (values_of (edges_in rows))
    && list_all (stands_among (nodes_in rows)) (values_of (stations_in rows))))

-- the nodes, edges and stations among the rows
abbrev pub layout_in : List LayoutRow → Layout
layout_in rows = record {
  nodes = set.from_list (nodes_in rows);
  edges = finite.from_entries (edges_in rows);
  stations = finite.from_entries (stations_in rows);
}

-- the layout that the rows give, or the error: Limit is tested before Bad
unfoldable pub layout_of : List LayoutRow → Result Layout LayoutFault
layout_of rows = if is_over_limit rows then Err fault.Limit else (if is_sound rows then Ok (layout_in rows) else Err fault.Bad)

-- the row of an edge
abbrev pub edge_row : Name × EdgeEnds → LayoutRow
edge_row edge = row.Edge edge.0 edge.1.start edge.1.finish

-- the row of a station
abbrev pub station_row : Name × StationSite → LayoutRow
station_row station = row.Station station.0 station.1.node station.1.capacity

-- the nodes of a layout, each once, in the order of their names
abbrev pub nodes_of : Layout → List Name
nodes_of layout = finite.keys (finite.from_entries {X = ⊤} {R = name_cmp} (map (λ id. (id, tt)) (set.items layout.nodes)))

-- the rows of a layout: its nodes, its edges and its stations, each in the order of their names
abbrev pub rows_in : Layout → List LayoutRow
rows_in layout =
    map (λ id. row.Node id) (nodes_of layout)
    ++ (map edge_row (finite.entries layout.edges) ++ map station_row (finite.entries layout.stations))
