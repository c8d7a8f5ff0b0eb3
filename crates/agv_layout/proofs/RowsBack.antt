-- The rows of a layout give it again, and what rows give keeps the rules.
use Rattle.std.proofs.Common.{arith, ◌≡◌, ◌≤◌, List, [], ◌∷◌, ◌++◌, map, Option, Some, None, Ok, refl, sym, ap, subst, append_assoc, append-nil, ◌∙◌}
use Rattle.std.specs.FinMap as finite
use Rattle.std.specs.FinSet as set
use Rattle.std.specs.List.{filter_map, cons_option, IsDistinct}
use Rattle.std.specs.List.Sorted.{IsStrictlySortedBy}
use Rattle.std.specs.Map.{keys_of}
use Rattle.std.specs.Ordering.{eq_by_cmp}
use Rattle.std.proofs.lemmas.List.Elements.{filter_map-append}
use Rattle.std.proofs.lemmas.Map.Keys.{IsDistinct-from_sorted}
use Rattle.agv_header.specs.Name.{name_cmp}
use Rattle.agv_layout.specs.declared.edge.EdgeEnds.{EdgeEnds}
use Rattle.agv_layout.specs.declared.layout.Layout.TheInside.{Inside}
use Rattle.agv_layout.specs.declared.row.LayoutRow.{LayoutRow}
use Rattle.agv_layout.specs.declared.row.LayoutRow.TheVariants as row
use Rattle.agv_layout.specs.declared.station.StationSite.{StationSite}
use Rattle.agv_layout.specs.Layout.{Name, Layout, KeepsRules}
use Rattle.agv_layout.specs.LayoutOf.{layout_in, layout_of, edge_row, station_row, nodes_of, rows_in}
use Rattle.agv_layout.specs.Rows.{node_in, edge_in, station_in, nodes_in, edges_in, stations_in, AreNamed, IsLayoutOf}
use Rattle.agv_layout.specs.Shown.{shown}
use Rattle.agv_layout.proofs.Drafts.{same_parts}
use Rattle.agv_layout.proofs.LayoutGiven.{sound_given, from_given}
use Rattle.agv_layout.proofs.InOrder.{entries-shown, nodes-shown, keys_in_order, from_its_entries, nodes_in_order, from_its_nodes}
use Rattle.agv_layout.proofs.Order.{rows_of_layout}
use Rattle.agv_layout.proofs.Rows.{AreDistinct, once_from}
use Rattle.agv_layout.proofs.Sound.{is_layout_of, whole_from, plan_from}

-- ---- what is read of rows that were made
module _ {X Y : Type 0} (says : LayoutRow → Option Y) (row_of : X → LayoutRow) where
  none_said : ((x : X) → says (row_of x) ≡ None) → (xs : List X) → filter_map says (map row_of xs) ≡ []
  none_said none [] = refl
  none_said none (x ∷ xs) = ap (λ o. cons_option o (filter_map says (map row_of xs))) (none x) ∙ none_said none xs

all_said : {Y : Type 0} (says : LayoutRow → Option Y) (row_of : Y → LayoutRow) → ((y : Y) → says (row_of y) ≡ Some y) → (ys : List Y) → filter_map says (map row_of ys) ≡ ys
all_said says row_of each [] = refl
all_said says row_of each (y ∷ ys) = ap (λ o. cons_option o (filter_map says (map row_of ys))) (each y) ∙ ap (λ l. y ∷ l) (all_said says row_of each ys)

module _ {Y : Type 0} (says : LayoutRow → Option Y) (layout : Layout) where
  -- of the rows of nodes, those of edges and those of stations
  three_said : (a b c : List Y) → filter_map says (map row.Node (nodes_of layout)) ≡ a → filter_map says (map edge_row (finite.entries layout.edges)) ≡ b
      → filter_map says (map station_row (finite.entries layout.stations)) ≡ c → filter_map says (rows_in layout) ≡ a ++ (b ++ c)
  three_said a b c nodes edges stations =
      let edge_rows = map edge_row (finite.entries layout.edges) in
      let station_rows = map station_row (finite.entries layout.stations) in
      filter_map-append says (map row.Node (nodes_of layout)) (edge_rows ++ station_rows)
      ∙ ap (λ l. filter_map says (map row.Node (nodes_of layout)) ++ l) (filter_map-append says edge_rows station_rows)
      ∙ (λ i. nodes i ++ (edges i ++ stations i))

module _ (layout : Layout) where
  abbrev edges : List (Name × EdgeEnds)
  edges = finite.entries layout.edges

  abbrev stations : List (Name × StationSite)
  stations = finite.entries layout.stations

  nodes_back : nodes_in (rows_in layout) ≡ nodes_of layout
  nodes_back =
      three_said node_in layout (nodes_of layout) [] [] (all_said node_in row.Node (λ _. refl) (nodes_of layout)) (none_said node_in edge_row (λ _. refl) edges) (none_said node_in station_row (λ _. refl) stations)
      ∙ append-nil (nodes_of layout)

  edges_back : edges_in (rows_in layout) ≡ edges
  edges_back =
      three_said edge_in layout [] edges [] (none_said edge_in row.Node (λ _. refl) (nodes_of layout)) (all_said edge_in edge_row (λ _. refl) edges) (none_said edge_in station_row (λ _. refl) stations)
      ∙ append-nil edges

  stations_back : stations_in (rows_in layout) ≡ stations
  stations_back =
      three_said station_in layout [] [] stations (none_said station_in row.Node (λ _. refl) (nodes_of layout)) (none_said station_in edge_row (λ _. refl) edges) (all_said station_in station_row (λ _. refl) stations)

  distinct_back : AreDistinct (rows_in layout)
  distinct_back =
      let apart = IsDistinct (eq_by_cmp name_cmp) in
      record {
        nodes = subst apart (sym nodes_back) (IsDistinct-from_sorted name_cmp _ (nodes_in_order layout));
        edges = subst (λ es. apart (keys_of es)) (sym edges_back) (IsDistinct-from_sorted name_cmp _ (keys_in_order layout.edges));
        stations = subst (λ es. apart (keys_of es)) (sym stations_back) (IsDistinct-from_sorted name_cmp _ (keys_in_order layout.stations));
      }

  layout_back : layout_in (rows_in layout) ≡ layout
  layout_back =
      same_parts _ _ _ _ _ _
      (ap (set.from_list {R = name_cmp}) nodes_back ∙ from_its_nodes layout)
      (ap (finite.from_entries {R = name_cmp}) edges_back ∙ from_its_entries layout.edges)
      (ap (finite.from_entries {R = name_cmp}) stations_back ∙ from_its_entries layout.stations)

  pub given_back : KeepsRules layout → layout_of (rows_in layout) ≡ Ok layout
  given_back plan =
      let rows = rows_in layout in
      let once = once_from rows distinct_back in
      let good = rows_of_layout rows layout once (subst (IsLayoutOf rows) layout_back (is_layout_of rows once)) plan in
      sound_given rows good.0 good.1 ∙ ap Ok layout_back

pub rules_kept : (rows : List LayoutRow) (layout : Layout) → AreNamed rows → layout_of rows ≡ Ok layout → KeepsRules layout
rules_kept rows layout named is =
    let given = from_given rows layout is in
    subst KeepsRules given.same (plan_from rows given.few given.sound.once named (whole_from rows given.sound))

pub node_needed : (empty layout : Layout) → empty.nodes ≡ set.empty → layout_of (rows_in empty) ≡ Ok layout → ⊥
node_needed empty layout none is =
    let given = from_given (rows_in empty) layout is in
    let some : 1 ≤ set.len (layout_in (rows_in empty)).nodes = (whole_from (rows_in empty) given.sound).some in
    let count = ap (λ (l : Layout). set.len l.nodes) (layout_back empty) ∙ ap set.len none ∙ set.len-empty name_cmp in
    omega (arith, some, count)

-- the rows that a listing of its parts gives
pub rows_listed : (inside : Inside) → IsStrictlySortedBy name_cmp inside.nodes.keys → IsStrictlySortedBy name_cmp (keys_of inside.edges.entries) → IsStrictlySortedBy name_cmp (keys_of inside.stations.entries)
    → ((map row.Node inside.nodes.keys ++ map edge_row inside.edges.entries) ++ map station_row inside.stations.entries) ≡ rows_in (shown inside)
rows_listed inside nodes edges stations =
    append_assoc (map row.Node inside.nodes.keys) (map edge_row inside.edges.entries) (map station_row inside.stations.entries)
    ∙ (λ i. map row.Node (nodes-shown (shown inside) inside.nodes.keys nodes refl i) ++ (map edge_row (sym (entries-shown inside.edges.entries edges) i) ++ map station_row (sym (entries-shown inside.stations.entries stations) i)))
