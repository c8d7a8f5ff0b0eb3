-- Rows that give a layout, and the layout that they give.
use Rattle.std.proofs.Common.{arith, ◌≡◌, ℕ, ◌<◌, ◌≤◌, ◌⊎◌, List, [], ◌∷◌, Some, None, Option, Contains, inl, inr, ⊎_elim, refl, sym, ap, subst, ◌∙◌}
use Rattle.std.specs.List.{filter_map, cons_option}
use Rattle.std.proofs.lemmas.List.Elements.{All-contains, Contains-append_right, Contains-append_cases, Contains-push_cases}
use Rattle.std.proofs.lemmas.Option.{none-some, same_Some, some_pair_parts}
use Rattle.agv_header.specs.Name.{IsName}
use Rattle.agv_layout.specs.declared.edge.EdgeEnds.{EdgeEnds}
use Rattle.agv_layout.specs.declared.row.LayoutRow.{LayoutRow}
use Rattle.agv_layout.specs.declared.row.LayoutRow.TheVariants as row
use Rattle.agv_layout.specs.declared.station.StationSite.{StationSite}
use Rattle.agv_layout.specs.Draft.{IsWhole}
use Rattle.agv_layout.specs.LayoutOf.{layout_in}
use Rattle.agv_layout.specs.Layout.{Name, Leads, StationFits, KeepsRules}
use Rattle.agv_layout.specs.Rows.{node_in, edge_in, station_in, nodes_in, edges_in, stations_in, LeadsAmong, StandsAmong, AreNamed, id_in, IsEachOnce, IsOverLimit, IsSound, IsLayoutOf}
use Rattle.agv_layout.proofs.Maps.{contains-Decides, get_found, get_entry, each_found, all_values, len-distinct, set_len-distinct}
use Rattle.agv_layout.proofs.Rows.{distinct_from}

-- ---- what rows hold, and what is read of them
here : {A : Type 0} (x : A) (xs : List A) → Contains (x ∷ xs) x
here x xs = (0, omega arith, refl)

there : {A : Type 0} (y x : A) (xs : List A) → Contains xs x → Contains (y ∷ xs) x
there y x xs among = Contains-append_right (y ∷ []) xs x among

nowhere : {A : Type 0} (x : A) → Contains [] x → ⊥
nowhere x among = let below = among.1 in omega arith

cons_cases : {A : Type 0} (y x : A) (xs : List A) → Contains (y ∷ xs) x → (y ≡ x) ⊎ Contains xs x
cons_cases y x xs among =
    let first : Contains (y ∷ []) x → (y ≡ x) ⊎ Contains xs x = λ one. ⊎_elim (λ none. absurd (nowhere x none)) (λ is. inl is) (Contains-push_cases [] y x one) in
    ⊎_elim first (λ later. inr later) (Contains-append_cases (y ∷ []) xs x among)

module _ {A Y : Type 0} (says : A → Option Y) where
  -- one of xs says y
  abbrev pub Sayer : List A → Y → Type 0
  Sayer xs y = (x : A) × Contains xs x × (says x ≡ Some y)

  pub said : (xs : List A) (x : A) (y : Y) → Contains xs x → says x ≡ Some y → Contains (filter_map says xs) y
  said [] x y among some = absurd (nowhere x among)
  said (z ∷ xs) x y among some =
      let now : z ≡ x → Contains (filter_map says (z ∷ xs)) y = λ is. subst (λ o. Contains (cons_option o (filter_map says xs)) y) (sym (ap says is ∙ some)) (here y (filter_map says xs)) in
      let more : Contains (filter_map says xs) y → Contains (filter_map says (z ∷ xs)) y = λ rest. elim (says z) as (λ o. Contains (cons_option o (filter_map says xs)) y) [ None ↦ rest | Some w ↦ there w y (filter_map says xs) rest ] in
      ⊎_elim now (λ later. more (said xs x y later some)) (cons_cases z x xs among)

  pub sayer : (xs : List A) (y : Y) → Contains (filter_map says xs) y → Sayer xs y
  sayer [] y among = absurd (nowhere y among)
  sayer (z ∷ xs) y among =
      let later : Contains (filter_map says xs) y → Sayer (z ∷ xs) y = λ rest. let from = sayer xs y rest in (from.0, there z from.0 xs from.1, from.2) in
      elim (says z) as (λ o. says z ≡ o → Contains (cons_option o (filter_map says xs)) y → Sayer (z ∷ xs) y) [
        | None ↦ λ _ rest. later rest
        | Some w ↦ λ e rest. ⊎_elim (λ is. (z, here z xs, e ∙ ap Some is)) later (cons_cases w y (filter_map says xs) rest)
      ] refl among

-- ---- the row that says so
node_row : (r : LayoutRow) (id : Name) → node_in r ≡ Some id → r ≡ row.Node id
node_row (row.Node a) id says = ap row.Node (same_Some a id says)
node_row (row.Edge a start finish) id says = absurd (none-some id says)
node_row (row.Station a node capacity) id says = absurd (none-some id says)

edge_row : (r : LayoutRow) (id : Name) (ends : EdgeEnds) → edge_in r ≡ Some (id, ends) → r ≡ row.Edge id ends.start ends.finish
edge_row (row.Node a) id ends says = absurd (none-some (id, ends) says)
edge_row (row.Edge a start finish) id ends says =
    let is = some_pair_parts a id _ ends says in
    λ i. row.Edge (is.0 i) (is.1 i).start (is.1 i).finish
edge_row (row.Station a node capacity) id ends says = absurd (none-some (id, ends) says)

station_row : (r : LayoutRow) (id : Name) (site : StationSite) → station_in r ≡ Some (id, site) → r ≡ row.Station id site.node site.capacity
station_row (row.Node a) id site says = absurd (none-some (id, site) says)
station_row (row.Edge a start finish) id site says = absurd (none-some (id, site) says)
station_row (row.Station a node capacity) id site says =
    let is = some_pair_parts a id _ site says in
    λ i. row.Station (is.0 i) (is.1 i).node (is.1 i).capacity

found_node : (rows : List LayoutRow) (id : Name) → Contains (nodes_in rows) id → Contains rows (row.Node id)
found_node rows id among = let from = sayer node_in rows id among in subst (Contains rows) (node_row from.0 id from.2) from.1

found_edge : (rows : List LayoutRow) (id : Name) (ends : EdgeEnds) → Contains (edges_in rows) (id, ends) → Contains rows (row.Edge id ends.start ends.finish)
found_edge rows id ends among = let from = sayer edge_in rows (id, ends) among in subst (Contains rows) (edge_row from.0 id ends from.2) from.1

found_station : (rows : List LayoutRow) (id : Name) (site : StationSite) → Contains (stations_in rows) (id, site) → Contains rows (row.Station id site.node site.capacity)
found_station rows id site among = let from = sayer station_in rows (id, site) among in subst (Contains rows) (station_row from.0 id site from.2) from.1

-- ---- the layout of the rows
pub is_layout_of : (rows : List LayoutRow) → IsEachOnce rows → IsLayoutOf rows (layout_in rows)
is_layout_of rows once =
    let d = distinct_from rows once in
    record {
      nodes = λ id. (
        λ is. found_node rows id ((contains-Decides (nodes_in rows) id).0 is),
        λ among. (contains-Decides (nodes_in rows) id).1 (said node_in rows (row.Node id) id among refl),
      );
      edges = λ id ends. (
        λ is. found_edge rows id ends (get_found (edges_in rows) id ends is),
        λ among. get_entry (edges_in rows) d.edges id ends (said edge_in rows (row.Edge id ends.start ends.finish) (id, ends) among refl),
      );
      stations = λ id site. (
        λ is. found_station rows id site (get_found (stations_in rows) id site is),
        λ among. get_entry (stations_in rows) d.stations id site (said station_in rows (row.Station id site.node site.capacity) (id, site) among refl),
      );
    }

leads_among : (rows : List LayoutRow) (ends : EdgeEnds) → Leads (layout_in rows) ends → LeadsAmong (nodes_in rows) ends
leads_among rows ends leads = let at = contains-Decides (nodes_in rows) in ((at ends.start).0 leads.0, (at ends.finish).0 leads.1, leads.2)

leads_in : (rows : List LayoutRow) (ends : EdgeEnds) → LeadsAmong (nodes_in rows) ends → Leads (layout_in rows) ends
leads_in rows ends leads = let at = contains-Decides (nodes_in rows) in ((at ends.start).1 leads.0, (at ends.finish).1 leads.1, leads.2)

stands_among : (rows : List LayoutRow) (site : StationSite) → StationFits (layout_in rows) site → StandsAmong (nodes_in rows) site
stands_among rows site stands = ((contains-Decides (nodes_in rows) site.node).0 stands.0, stands.1, stands.2)

stands_in : (rows : List LayoutRow) (site : StationSite) → StandsAmong (nodes_in rows) site → StationFits (layout_in rows) site
stands_in rows site stands = ((contains-Decides (nodes_in rows) site.node).1 stands.0, stands.1, stands.2)

pub sound_from : (rows : List LayoutRow) → IsEachOnce rows → IsWhole (layout_in rows) → IsSound rows
sound_from rows once whole =
    let d = distinct_from rows once in
    record {
      some = subst (λ n. 1 ≤ n) (set_len-distinct (nodes_in rows) d.nodes) whole.some;
      once = once;
      leads = all_values (LeadsAmong (nodes_in rows)) (edges_in rows) d.edges (λ id ends is. leads_among rows ends (whole.leads id ends is));
      stands = all_values (StandsAmong (nodes_in rows)) (stations_in rows) d.stations (λ id site is. stands_among rows site (whole.stands id site is));
    }

pub whole_from : (rows : List LayoutRow) → IsSound rows → IsWhole (layout_in rows)
whole_from rows sound =
    let d = distinct_from rows sound.once in
    record {
      some = subst (λ n. 1 ≤ n) (sym (set_len-distinct (nodes_in rows) d.nodes)) sound.some;
      leads = λ id ends is. leads_in rows ends (each_found (LeadsAmong (nodes_in rows)) (edges_in rows) sound.leads id ends is);
      stands = λ id site is. stands_in rows site (each_found (StandsAmong (nodes_in rows)) (stations_in rows) sound.stands id site is);
    }

-- ---- what holds of every layout
within : (n most : ℕ) → (most < n → ⊥) → n ≤ most
within n most few = omega arith

pub plan_from : (rows : List LayoutRow) → (IsOverLimit rows → ⊥) → IsEachOnce rows → AreNamed rows → IsWhole (layout_in rows) → KeepsRules (layout_in rows)
plan_from rows few once named whole =
    let d = distinct_from rows once in
    let is = is_layout_of rows once in
    let name = λ (r : LayoutRow) (among : Contains rows r). All-contains (λ x. IsName (id_in x)) rows r named among in
    record {
      some = whole.some;
      few_nodes = subst (λ n. n ≤ 500) (sym (set_len-distinct (nodes_in rows) d.nodes)) (within _ _ (λ over. few (inl over)));
      few_edges = subst (λ n. n ≤ 1500) (sym (len-distinct (edges_in rows) d.edges)) (within _ _ (λ over. few (inr (inl over))));
      few_stations = subst (λ n. n ≤ 500) (sym (len-distinct (stations_in rows) d.stations)) (within _ _ (λ over. few (inr (inr over))));
      nodes_named = λ id here. name (row.Node id) ((is.nodes id).0 here);
      edges_named = λ id ends here. name (row.Edge id ends.start ends.finish) ((is.edges id ends).0 here);
      stations_named = λ id site here. name (row.Station id site.node site.capacity) ((is.stations id site).0 here);
      leads = whole.leads;
      stands = whole.stands;
    }
