-- The part of a layout that is read from its rows so far. No public clause cites this.
use Rattle.std.specs.Prelude.{◌≤◌, Bool, ◌&&◌, not, nat_eq, nat_le, is_some}
use Rattle.std.specs.BTreeSet.{contains}
use Rattle.std.specs.Cmp.Lexicographic.{pointwise}
use Rattle.std.specs.FinMap as map
use Rattle.std.specs.FinSet as set
use Rattle.agv_header.specs.Name.{name_cmp}
use Rattle.agv_layout.specs.declared.draft.Draft.{Draft}
use Rattle.agv_layout.specs.declared.edge.EdgeEnds.{EdgeEnds}
use Rattle.agv_layout.specs.declared.row.LayoutRow.{LayoutRow}
use Rattle.agv_layout.specs.declared.row.LayoutRow.TheVariants as row
use Rattle.agv_layout.specs.declared.station.StationSite.{StationSite}
use Rattle.agv_layout.specs.Layout.{Name, Layout, IsEdge, IsStation, Leads, StationFits}

-- the layout that a draft's parts make
abbrev pub drawn : Draft → Layout
drawn draft = record {
  nodes = set.from_list draft.nodes.keys;
  edges = map.from_entries draft.edges.entries;
  stations = map.from_entries draft.stations.entries;
}

-- whether something of the row's kind has its id already
abbrev pub has_id : Layout → LayoutRow → Bool
has_id plan (row.Node id) = set.contains plan.nodes id
has_id plan (row.Edge id start finish) = is_some (map.get plan.edges id)
has_id plan (row.Station id node capacity) = is_some (map.get plan.stations id)

-- the layout with the row's node, edge or station added
abbrev pub with_row : Layout → LayoutRow → Layout
with_row plan (row.Node id) = record { nodes = set.insert plan.nodes id; edges = plan.edges; stations = plan.stations }
with_row plan (row.Edge id start finish) = record {
  nodes = plan.nodes;
  edges = map.insert plan.edges id (record { start = start; finish = finish });
  stations = plan.stations;
}
with_row plan (row.Station id node capacity) = record {
  nodes = plan.nodes;
  edges = plan.edges;
  stations = map.insert plan.stations id (record { node = node; capacity = capacity });
}

-- the edge leads from a node of the draft to another
abbrev pub leads_in_draft : Draft → EdgeEnds → Bool
leads_in_draft draft ends =
    contains name_cmp draft.nodes ends.start && (contains name_cmp draft.nodes ends.finish && not (pointwise nat_eq ends.start ends.finish))

-- the station is at a node of the draft, and has a capacity of 1 to 999
abbrev pub stands_in_draft : Draft → StationSite → Bool
stands_in_draft draft site = contains name_cmp draft.nodes site.node && (nat_le 1 site.capacity && nat_le site.capacity 999)

-- there is a node
abbrev pub HasNode : Layout → Type 0
HasNode plan = 1 ≤ set.len plan.nodes

-- each edge leads from a node to another node
abbrev pub AllLead : Layout → Type 0
AllLead plan = (id : Name) (ends : EdgeEnds) → IsEdge plan id ends → Leads plan ends

-- each station is at a node, and has room for 1 to 999 loads
abbrev pub AllStand : Layout → Type 0
AllStand plan = (id : Name) (site : StationSite) → IsStation plan id site → StationFits plan site

-- there is a node, edges lead from a node to another, and stations are at nodes with a capacity of 1 to 999
pub record IsWhole (plan : Layout) : Type 0 where
  pub some : HasNode plan
  pub leads : AllLead plan
  pub stands : AllStand plan
