-- The rows of a layout are listed by names, with capacities of 1 to 3 digits.
use Rattle.std.proofs.Common.{◌≡◌, Bool, true, false, T, cond, List, [], ◌∷◌, ◌++◌, map, All, None, Ok, Some, Ordering, Less, Equal, Greater, IsTrue, is_eq, is_lt, option_map, refl, sym, ap, ◌∙◌}
use Rattle.std.specs.Cmp.{Equal-is, eq_by_cmp_equiv, tied_itself}
use Rattle.std.specs.Cmp.Lexicographic.{nat_list_cmp_total}
use Rattle.std.specs.FinMap as finite
use Rattle.std.specs.FinMap.Entries.{below_all, find, find_tied, is_sorted}
use Rattle.std.specs.FinSet as set
use Rattle.std.specs.Ordering.{eq_by_cmp}
use Rattle.std.proofs.lemmas.Bool.{and_parts}
use Rattle.std.proofs.lemmas.List.Elements.{All-append, All-cons, All-map, All-nil}
use Rattle.std.proofs.lemmas.Map.Views.{All-from_any}
use Rattle.agv_header.specs.Name.{IsName, name_cmp}
use Rattle.agv_layout.specs.declared.row.LayoutRow.TheVariants as row
use Rattle.agv_layout.specs.Layout.{AreNodesInOrder, KeepsRules, Layout, Name}
use Rattle.agv_layout.specs.LayoutOf.{edge_row, layout_of, nodes_of, rows_in, station_row}
use Rattle.agv_count.specs.LayoutExport.{AreListed, IsListed}
use Rattle.agv_count.specs.LayoutFile.{layout_rows_in}
use Rattle.agv_count.specs.Reports.{layout_text}
use Rattle.agv_count.proofs.LayoutReadBack.{read_back}

is_true : (b : Bool) → T b → b ≡ true
is_true true h = refl
is_true false h = absurd h

not_tied : (r : Ordering) → is_lt r ≡ true → is_eq r ≡ false
not_tied Less e = refl
not_tied Equal e = cc e
not_tied Greater e = refl

-- ---- the entries of a map
module _ {X : Type 0} where
  none_below : (id : Name) (es : List (Name × X)) → below_all name_cmp id es ≡ true → find name_cmp id es ≡ None
  none_below id [] below = refl
  none_below id (e ∷ es) below =
      let parts = and_parts (is_lt (name_cmp id e.0)) (below_all name_cmp id es) below in
      ap (λ b. cond b (Some e.1) (find name_cmp id es)) (not_tied (name_cmp id e.0) parts.0) ∙ none_below id es parts.1

  -- what is found after an entry is found with it
  found_later : (e : Name × X) (es : List (Name × X)) (id : Name) (x : X) → below_all name_cmp e.0 es ≡ true → find name_cmp id es ≡ Some x → find name_cmp id (e ∷ es) ≡ Some x
  found_later e es id x below at =
      elim (eq_by_cmp name_cmp id e.0) as (λ b. eq_by_cmp name_cmp id e.0 ≡ b → cond b (Some e.1) (find name_cmp id es) ≡ Some x) [
        | true ↦ λ tied.
            let none : find name_cmp id es ≡ None = sym (find_tied name_cmp nat_list_cmp_total id e.0 ((Equal-is (name_cmp id e.0)).0 tied) es) ∙ none_below e.0 es below in
            cc (sym none ∙ at)
        | false ↦ λ _. at
      ] refl

  each_in : (P : Name × X → Type 0) (es : List (Name × X)) → is_sorted name_cmp es ≡ true → ((id : Name) (x : X) → find name_cmp id es ≡ Some x → P (id, x)) → All P es
  each_in P [] sorted holds = All-nil P
  each_in P (e ∷ es) sorted holds =
      let parts = and_parts (below_all name_cmp e.0 es) (is_sorted name_cmp es) sorted in
      let first = ap (λ r. cond (is_eq r) (Some e.1) (find name_cmp e.0 es)) (tied_itself nat_list_cmp_total e.0) in
      All-cons P e es (holds e.0 e.1 first) (each_in P es parts.1 (λ id x at. holds id x (found_later e es id x parts.0 at)))

  -- what holds of each name and value of a map holds of its entries
  each_entry : (P : Name × X → Type 0) (m : finite.FinMap name_cmp X) → ((id : Name) (x : X) → finite.get m id ≡ Some x → P (id, x)) → All P (finite.entries m)
  each_entry P m holds = each_in P (finite.entries m) (is_true _ (finite.entries_sorted m)) (λ id x at. holds id x (finite.get-entries m id ∙ at))

-- ---- the rows of a layout
module _ (layout : Layout) (ordered : AreNodesInOrder layout (nodes_of layout)) (rules : KeepsRules layout) where
  node_named : (id : Name) → IsTrue (set.contains layout.nodes id) → IsName id
  node_named = rules.nodes_named

  nodes_listed : All IsListed (map row.Node (nodes_of layout))
  nodes_listed =
      All-map IsListed row.Node (nodes_of layout) (All-from_any (eq_by_cmp_equiv nat_list_cmp_total) IsName (nodes_of layout) (λ id among.
      node_named id (ap (λ (nodes : set.FinSet name_cmp). set.contains nodes id) (sym ordered.all) ∙ set.contains-from_list nat_list_cmp_total (nodes_of layout) id ∙ among)))

  edges_listed : All IsListed (map edge_row (finite.entries layout.edges))
  edges_listed =
      All-map IsListed edge_row (finite.entries layout.edges) (each_entry (λ e. IsListed (edge_row e)) layout.edges (λ id ends at.
      let leads = rules.leads id ends at in
      (rules.edges_named id ends at, node_named ends.start leads.0, node_named ends.finish leads.1)))

  stations_listed : All IsListed (map station_row (finite.entries layout.stations))
  stations_listed =
      All-map IsListed station_row (finite.entries layout.stations) (each_entry (λ s. IsListed (station_row s)) layout.stations (λ id site at.
      let stands = rules.stands id site at in
      (rules.stations_named id site at, node_named site.node stands.0, stands.2)))

  pub rows_listed : AreListed (rows_in layout)
  rows_listed =
      let edge_rows = map edge_row (finite.entries layout.edges) in
      let station_rows = map station_row (finite.entries layout.stations) in
      All-append IsListed (map row.Node (nodes_of layout)) (edge_rows ++ station_rows) nodes_listed (All-append IsListed edge_rows station_rows edges_listed stations_listed)

  pub layout_back : layout_of (rows_in layout) ≡ Ok layout → option_map layout_of (layout_rows_in (layout_text (rows_in layout))) ≡ Some (Ok layout)
  layout_back gives = ap (option_map layout_of) (read_back (rows_in layout) rows_listed) ∙ ap Some gives
