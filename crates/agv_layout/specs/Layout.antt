-- The layout of a warehouse: its nodes, its edges and its stations (VDA 5050: nodes and edges; stations are this project's).
use Rattle.std.specs.Prelude.{◌≡◌, ◌≢◌, ℕ, ◌≤◌, List, Some, IsTrue}
use Rattle.std.specs.FinMap as map
use Rattle.std.specs.FinSet as set
use Rattle.std.specs.List.Sorted.{IsStrictlySortedBy}
use Rattle.agv_header.specs.Name.{name_cmp, IsName}
use Rattle.agv_layout.specs.declared.edge.EdgeEnds.{EdgeEnds}
use Rattle.agv_layout.specs.declared.edge.Edge.{Edge}
use Rattle.agv_layout.specs.declared.station.StationSite.{StationSite}
use Rattle.agv_layout.specs.declared.station.Station.{Station}

-- a name, as the list of its bytes
abbrev pub Name : Type 0
Name = List ℕ

-- a layout: its set of nodes, the ends of each edge, and the node and capacity of each station
pub record Layout : Type 0 where
  pub nodes : set.FinSet name_cmp
  pub edges : map.FinMap name_cmp EdgeEnds
  pub stations : map.FinMap name_cmp StationSite

-- the layout has a node of this name
abbrev pub IsNode : Layout → Name → Type 0
IsNode layout id = IsTrue (set.contains layout.nodes id)

-- the layout has an edge of this name, with these ends
abbrev pub IsEdge : Layout → Name → EdgeEnds → Type 0
IsEdge layout id ends = map.get layout.edges id ≡ Some ends

-- the layout has a station of this name, at this site
abbrev pub IsStation : Layout → Name → StationSite → Type 0
IsStation layout id site = map.get layout.stations id ≡ Some site

-- the edge leads from a node of the layout to another
abbrev pub Leads : Layout → EdgeEnds → Type 0
Leads layout ends = IsNode layout ends.start × IsNode layout ends.finish × (ends.start ≢ ends.finish)

-- the station is at a node of the layout, and its capacity is 1 to 999 loads
abbrev pub StationFits : Layout → StationSite → Type 0
StationFits layout site = IsNode layout site.node × (1 ≤ site.capacity) × (site.capacity ≤ 999)

-- what holds of every layout: there is a node, there are at most 500 nodes, 1,500 edges and 500 stations, and each has a name;
-- edges lead from a node to another, and stations are at nodes and have a capacity of 1 to 999 loads
pub record KeepsRules (layout : Layout) : Type 0 where
  pub some : 1 ≤ set.len layout.nodes
  pub few_nodes : set.len layout.nodes ≤ 500
  pub few_edges : map.len layout.edges ≤ 1500
  pub few_stations : map.len layout.stations ≤ 500
  pub nodes_named : (id : Name) → IsNode layout id → IsName id
  pub edges_named : (id : Name) (ends : EdgeEnds) → IsEdge layout id ends → IsName id
  pub stations_named : (id : Name) (site : StationSite) → IsStation layout id site → IsName id
  pub leads : (id : Name) (ends : EdgeEnds) → IsEdge layout id ends → Leads layout ends
  pub stands : (id : Name) (site : StationSite) → IsStation layout id site → StationFits layout site

-- the list has exactly the nodes of the layout, each once, in the order of their names
pub record AreNodesInOrder (layout : Layout) (ids : List Name) : Type 0 where
  pub ordered : IsStrictlySortedBy name_cmp ids
  pub all : set.from_list ids ≡ layout.nodes

-- the edge with this name and these ends
abbrev pub edge_of : Name → EdgeEnds → Edge
edge_of id ends = record { id = id; start = ends.start; finish = ends.finish }

-- the station with this name and this site
abbrev pub station_of : Name → StationSite → Station
station_of id site = record { id = id; node = site.node; capacity = site.capacity }
