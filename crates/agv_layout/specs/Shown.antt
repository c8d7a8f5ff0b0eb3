-- How a layout is stored: its nodes, edges and stations, each in the order of their names.
use Rattle.std.specs.FinMap as map
use Rattle.std.specs.FinSet as set
use Rattle.agv_layout.specs.declared.layout.Layout.TheInside.{Inside}
use Rattle.agv_layout.specs.Layout.{Layout}

-- the layout that the stored parts make
abbrev pub shown : Inside → Layout
shown layout = record {
  nodes = set.from_list layout.nodes.keys;
  edges = map.from_entries layout.edges.entries;
  stations = map.from_entries layout.stations.entries;
}
