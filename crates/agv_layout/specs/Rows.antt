-- The rows of a layout, in any order: when they give a layout, and which one (this project's profile).
use Rattle.std.specs.Prelude.{◌≢◌, ◌⊎◌, ◌↔◌, ◌<◌, ◌≤◌, List, length, Option, None, Some, All, AllPairs, Contains}
use Rattle.std.specs.List.{filter_map}
use Rattle.std.specs.Map.{keys_of, values_of}
use Rattle.agv_header.specs.Name.{IsName}
use Rattle.agv_layout.specs.declared.edge.EdgeEnds.{EdgeEnds}
use Rattle.agv_layout.specs.declared.row.LayoutRow.{LayoutRow}
use Rattle.agv_layout.specs.declared.row.LayoutRow.TheVariants as row
use Rattle.agv_layout.specs.declared.station.StationSite.{StationSite}
use Rattle.agv_layout.specs.Layout.{Name, Layout, IsNode, IsEdge, IsStation}

-- the id of the node that a row describes, if it describes one
abbrev pub node_in : LayoutRow → Option Name
node_in (row.Node id) = Some id
node_in (row.Edge id start finish) = None
node_in (row.Station id node capacity) = None

-- the id and the ends of the edge that a row describes, if it describes one
abbrev pub edge_in : LayoutRow → Option (Name × EdgeEnds)
edge_in (row.Node id) = None
edge_in (row.Edge id start finish) = Some (id, record { start = start; finish = finish })
edge_in (row.Station id node capacity) = None

-- the id, the node and the capacity of the station that a row describes, if it describes one
abbrev pub station_in : LayoutRow → Option (Name × StationSite)
station_in (row.Node id) = None
station_in (row.Edge id start finish) = None
station_in (row.Station id node capacity) = Some (id, record { node = node; capacity = capacity })

-- the id of the row's node, edge or station
abbrev pub id_in : LayoutRow → Name
id_in (row.Node id) = id
id_in (row.Edge id start finish) = id
id_in (row.Station id node capacity) = id

-- the id of each row is a name
abbrev pub AreNamed : List LayoutRow → Type 0
AreNamed rows = All (λ r. IsName (id_in r)) rows

-- the nodes among rows
abbrev pub nodes_in : List LayoutRow → List Name
nodes_in rows = filter_map node_in rows

-- the edges among rows
abbrev pub edges_in : List LayoutRow → List (Name × EdgeEnds)
edges_in rows = filter_map edge_in rows

-- the stations among rows
abbrev pub stations_in : List LayoutRow → List (Name × StationSite)
stations_in rows = filter_map station_in rows

-- there are more than 500 nodes, 1,500 edges or 500 stations
abbrev pub IsOverLimit : List LayoutRow → Type 0
IsOverLimit rows = (500 < length (nodes_in rows)) ⊎ ((1500 < length (edges_in rows)) ⊎ (500 < length (stations_in rows)))

-- no two of the names are the same
abbrev pub Differ : List Name → Type 0
Differ ids = AllPairs (λ a b. a ≢ b) ids

-- no two nodes have the same id, no two edges, and no two stations
pub record IsEachOnce (rows : List LayoutRow) : Type 0 where
  pub nodes : Differ (nodes_in rows)
  pub edges : Differ (keys_of (edges_in rows))
  pub stations : Differ (keys_of (stations_in rows))

-- the edge leads from one of these nodes to another of them
abbrev pub LeadsAmong : List Name → EdgeEnds → Type 0
LeadsAmong nodes ends = Contains nodes ends.start × Contains nodes ends.finish × (ends.start ≢ ends.finish)

-- the station is at one of these nodes, and its capacity is 1 to 999 loads
abbrev pub StandsAmong : List Name → StationSite → Type 0
StandsAmong nodes site = Contains nodes site.node × (1 ≤ site.capacity) × (site.capacity ≤ 999)

-- the rows describe a layout: there is a node, each id is once in its kind, and edges and stations are at listed nodes
pub record IsSound (rows : List LayoutRow) : Type 0 where
  pub some : 1 ≤ length (nodes_in rows)
  pub once : IsEachOnce rows
  pub leads : All (LeadsAmong (nodes_in rows)) (values_of (edges_in rows))
  pub stands : All (StandsAmong (nodes_in rows)) (values_of (stations_in rows))

-- the layout has exactly the nodes, edges and stations of the rows
pub record IsLayoutOf (rows : List LayoutRow) (layout : Layout) : Type 0 where
  pub nodes : (id : Name) → IsNode layout id ↔ Contains rows (row.Node id)
  pub edges : (id : Name) (ends : EdgeEnds) → IsEdge layout id ends ↔ Contains rows (row.Edge id ends.start ends.finish)
  pub stations : (id : Name) (site : StationSite) → IsStation layout id site ↔ Contains rows (row.Station id site.node site.capacity)

-- both lists of rows are over the limit or neither is, both describe a layout or neither does, and both give the same
pub record IsReadAlike (rows others : List LayoutRow) : Type 0 where
  pub limit : IsOverLimit rows ↔ IsOverLimit others
  pub sound : IsSound rows ↔ IsSound others
  pub layout : (layout : Layout) → IsLayoutOf rows layout ↔ IsLayoutOf others layout
