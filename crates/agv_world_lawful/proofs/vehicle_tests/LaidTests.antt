-- The tables of the layout pass their tests just where the layout is not set, or keeps the rules of a layout.
use Rattle.std.proofs.Common.{◌≡◌, ◌⊎◌, ℕ, ◌&&◌, ◌||◌, not, Bool, true, false, List, inl, inr, refl, ap, ◌∙◌}
use Rattle.std.proofs.lemmas.Bool.{and_parts, and_from, or_cases, leb-true, le-leb, eqb-true, eq-eqb, not-true}
use Rattle.std.specs.FinMap as finite
use Rattle.std.specs.FinSet as set
use Rattle.agv_header.specs.Name.{name_cmp}
use Rattle.agv_layout.specs.Layout.{Layout, KeepsRules, Leads, StationFits}
use Rattle.agv_layout.specs.declared.edge.EdgeEnds.{EdgeEnds}
use Rattle.agv_layout.specs.declared.station.StationSite.{StationSite}
use Rattle.agv_world_lawful.specs.LawfulTests.{does_lead, does_stand, is_in_limits, is_unset, all_lead, all_stand, is_laid}
use Rattle.agv_world_core.specs.Told.{layout_of_tables}
use Rattle.agv_world_lawful.specs.Values.{HasValues}
use Rattle.agv_world_core.specs.Worlds.{empty_layout}
use Rattle.agv_world_core.specs.declared.world.World.{World as Tables}
use Rattle.agv_world_core.proofs.lists.EachEntry.{each-entry, all-entries}
use Rattle.agv_world_core.proofs.lists.Orders.{names_total, names_apart}
use Rattle.agv_world_core.proofs.lists.SameNames.{other_name, name_other}

abbrev Laid : Layout → Type 0
Laid layout = (layout ≡ empty_layout) ⊎ KeepsRules layout

module _ (tables : Tables) where
  leads : (ends : EdgeEnds) → does_lead tables ends ≡ true → Leads (layout_of_tables tables) ends
  leads ends e =
      let first = and_parts _ _ e in
      let second = and_parts _ _ first.1 in
      (first.0, second.0, other_name ends.start ends.finish (not-true _ second.1))

  leads_again : (ends : EdgeEnds) → Leads (layout_of_tables tables) ends → does_lead tables ends ≡ true
  leads_again ends is = and_from _ _ is.0 (and_from _ _ is.1 (ap not (name_other ends.start ends.finish is.2)))

  stands : (site : StationSite) → does_stand tables site ≡ true → StationFits (layout_of_tables tables) site
  stands site e =
      let first = and_parts _ _ e in
      let second = and_parts _ _ first.1 in
      (first.0, leb-true 1 site.capacity second.0, leb-true site.capacity 999 second.1)

  stands_again : (site : StationSite) → StationFits (layout_of_tables tables) site → does_stand tables site ≡ true
  stands_again site is = and_from _ _ is.0 (and_from _ _ (le-leb 1 site.capacity is.1) (le-leb site.capacity 999 is.2))

  -- ---- a layout that is set
  rules : HasValues tables → is_in_limits tables ≡ true → all_lead tables ≡ true → all_stand tables ≡ true → KeepsRules (layout_of_tables tables)
  rules values limits lead stand =
      let one = and_parts _ _ limits in
      let two = and_parts _ _ one.1 in
      let three = and_parts _ _ two.1 in
      record {
        some = leb-true 1 (set.len tables.nodes) one.0;
        few_nodes = leb-true (set.len tables.nodes) 500 two.0;
        few_edges = leb-true (finite.len tables.edges) 1500 three.0;
        few_stations = leb-true (finite.len tables.stations) 500 three.1;
        nodes_named = values.nodes;
        edges_named = values.edges;
        stations_named = values.stations;
        leads = λ id ends at. leads ends (each-entry names_total names_apart (λ (edge : List ℕ × EdgeEnds). does_lead tables edge.1) tables.edges lead id ends at);
        stands = λ id site at. stands site (each-entry names_total names_apart (λ (station : List ℕ × StationSite). does_stand tables station.1) tables.stations stand id site at);
      }

  rules_again : KeepsRules (layout_of_tables tables) → (is_in_limits tables && (all_lead tables && all_stand tables)) ≡ true
  rules_again keeps =
      and_from _ _
      (and_from _ _ (le-leb 1 (set.len tables.nodes) keeps.some)
      (and_from _ _ (le-leb (set.len tables.nodes) 500 keeps.few_nodes)
      (and_from _ _ (le-leb (finite.len tables.edges) 1500 keeps.few_edges) (le-leb (finite.len tables.stations) 500 keeps.few_stations))))
      (and_from _ _
      (all-entries names_total names_apart (λ (edge : List ℕ × EdgeEnds). does_lead tables edge.1) tables.edges (λ id ends at. leads_again ends (keeps.leads id ends at)))
      (all-entries names_total names_apart (λ (station : List ℕ × StationSite). does_stand tables station.1) tables.stations (λ id site at. stands_again site (keeps.stands id site at))))

  -- ---- one that is not
  unset : is_unset tables ≡ true → layout_of_tables tables ≡ empty_layout
  unset e =
      let first = and_parts _ _ e in
      let second = and_parts _ _ first.1 in
      let nodes = set.empty_of_len tables.nodes (eqb-true _ _ first.0) in
      let edges = finite.empty_of_len tables.edges (eqb-true _ _ second.0) in
      let stations = finite.empty_of_len tables.stations (eqb-true _ _ second.1) in
      λ i. record { nodes = nodes i; edges = edges i; stations = stations i }

  unset_again : layout_of_tables tables ≡ empty_layout → is_unset tables ≡ true
  unset_again e =
      and_from _ _ (eq-eqb _ _ (ap (λ (layout : Layout). set.len layout.nodes) e ∙ set.len-empty name_cmp))
      (and_from _ _ (eq-eqb _ _ (ap (λ (layout : Layout). finite.len layout.edges) e ∙ finite.len-empty name_cmp EdgeEnds))
      (eq-eqb _ _ (ap (λ (layout : Layout). finite.len layout.stations) e ∙ finite.len-empty name_cmp StationSite)))

  -- ---- both
  pub laid : HasValues tables → is_laid tables ≡ true → Laid (layout_of_tables tables)
  laid values e = elim (or_cases (is_unset tables) (is_in_limits tables && (all_lead tables && all_stand tables)) e) [
    | inl none ↦ inl (unset none)
    | inr set ↦ let first = and_parts _ _ set in let second = and_parts _ _ first.1 in inr (rules values first.0 second.0 second.1)
  ]

  pub laid_again : Laid (layout_of_tables tables) → is_laid tables ≡ true
  laid_again (inl e) = ap (λ b. b || (is_in_limits tables && (all_lead tables && all_stand tables))) (unset_again e)
  laid_again (inr keeps) = either (is_unset tables) (rules_again keeps)
    where
      either : (b : Bool) {c : Bool} → c ≡ true → (b || c) ≡ true
      either true e = refl
      either false e = e
