-- One more row: what it adds, and when its id is there already.
use Rattle.std.proofs.Common.{arith, ◌≡◌, ℕ, ◌<◌, true, false, List, [], ◌∷◌, ◌++◌, length, get_or, is_some, Some, None, Option, refl, sym, ap, subst, append-nil, length-append, take-append-drop, drop-cons, add-one, true≢false, suc, ◌+◌, take, drop, ◌∙◌}
use Rattle.std.specs.BTreeMap.{is_at}
use Rattle.std.specs.FinMap as map
use Rattle.std.specs.FinMap.{get-from_entries}
use Rattle.std.specs.FinSet as set
use Rattle.std.specs.List.{list_any, IsDistinct, filter_map, cons_option}
use Rattle.std.specs.Map.{keys_of}
use Rattle.std.specs.Ordering.{eq_by_cmp}
use Rattle.std.proofs.lemmas.List.{get_or_append_left, get_or_at, take_more}
use Rattle.std.proofs.lemmas.List.Elements.{filter_map-append}
use Rattle.std.proofs.lemmas.Map.Keys.{IsDistinct-push}
use Rattle.std.proofs.lemmas.Map.Made.{is_some-lookup, AllPairs-from_IsDistinct, IsDistinct-from_AllPairs}
use Rattle.std.proofs.lemmas.Map.Views.{Contains-from_any}
use Rattle.agv_header.specs.Name.{name_cmp}
use Rattle.agv_layout.specs.declared.row.LayoutRow.{LayoutRow}
use Rattle.agv_layout.specs.declared.row.LayoutRow.TheVariants as row
use Rattle.agv_layout.specs.Draft.{has_id, with_row}
use Rattle.agv_layout.specs.LayoutOf.{layout_in}
use Rattle.agv_layout.specs.Layout.{Name}
use Rattle.agv_layout.specs.Rows.{node_in, edge_in, station_in, nodes_in, edges_in, stations_in, Differ, IsEachOnce}
use Rattle.agv_layout.proofs.Drafts.{same_parts}
use Rattle.agv_layout.proofs.Maps.{names_total, names_apart, names_equiv, decides_name, same_name, get-shown, contains-shown}

-- `IsEachOnce`, by the order of names
pub record AreDistinct (rows : List LayoutRow) : Type 0 where
  pub nodes : IsDistinct (eq_by_cmp name_cmp) (nodes_in rows)
  pub edges : IsDistinct (eq_by_cmp name_cmp) (keys_of (edges_in rows))
  pub stations : IsDistinct (eq_by_cmp name_cmp) (keys_of (stations_in rows))

pub once_from : (rows : List LayoutRow) → AreDistinct rows → IsEachOnce rows
once_from rows d = record {
  nodes = AllPairs-from_IsDistinct decides_name (nodes_in rows) d.nodes;
  edges = AllPairs-from_IsDistinct decides_name (keys_of (edges_in rows)) d.edges;
  stations = AllPairs-from_IsDistinct decides_name (keys_of (stations_in rows)) d.stations;
}

pub distinct_from : (rows : List LayoutRow) → IsEachOnce rows → AreDistinct rows
distinct_from rows once = record {
  nodes = IsDistinct-from_AllPairs decides_name (nodes_in rows) once.nodes;
  edges = IsDistinct-from_AllPairs decides_name (keys_of (edges_in rows)) once.edges;
  stations = IsDistinct-from_AllPairs decides_name (keys_of (stations_in rows)) once.stations;
}

pub distinct_none : AreDistinct []
unfolding IsDistinct
distinct_none = record { nodes = tt; edges = tt; stations = tt }

-- ---- what one more row adds
module _ {Y : Type 0} (says : LayoutRow → Option Y) where
  other_kind : (rows : List LayoutRow) (r : LayoutRow) → says r ≡ None → filter_map says (rows ++ r ∷ []) ≡ filter_map says rows
  other_kind rows r none = filter_map-append says rows (r ∷ []) ∙ ap (λ o. filter_map says rows ++ cons_option o []) none ∙ append-nil (filter_map says rows)

  this_kind : (rows more : List LayoutRow) (r : LayoutRow) (y : Y) → says r ≡ Some y → filter_map says (rows ++ r ∷ more) ≡ filter_map says rows ++ y ∷ filter_map says more
  this_kind rows more r y some = filter_map-append says rows (r ∷ more) ∙ ap (λ o. filter_map says rows ++ cons_option o (filter_map says more)) some

keys_of-append : {X : Type 0} (es more : List (Name × X)) → keys_of (es ++ more) ≡ keys_of es ++ keys_of more
keys_of-append [] more = refl
keys_of-append (e ∷ es) more = ap (λ ks. e.0 ∷ ks) (keys_of-append es more)

none_from : {X : Type 0} (o : Option X) → is_some o ≡ false → o ≡ None
none_from None new = refl
none_from (Some x) new = absurd (true≢false new)

-- an entry whose name is new
entry_pushed : {X : Type 0} (es : List (Name × X)) (k : Name) (v : X) → is_some (map.get (map.from_entries {R = name_cmp} es) k) ≡ false
    → map.from_entries {R = name_cmp} (es ++ (k, v) ∷ []) ≡ map.insert (map.from_entries es) k v
entry_pushed es k v new =
    map.from_entries_push names_total names_apart es k v (sym (get-from_entries names_total es k) ∙ none_from _ new)

keys_pushed : {X : Type 0} (es : List (Name × X)) (k : Name) (v : X) → is_some (map.get (map.from_entries {R = name_cmp} es) k) ≡ false
    → IsDistinct (eq_by_cmp name_cmp) (keys_of es) → IsDistinct (eq_by_cmp name_cmp) (keys_of (es ++ (k, v) ∷ []))
keys_pushed es k v new once =
    let absent = sym (ap is_some (get-shown es k) ∙ is_some-lookup (is_at (name_cmp k)) es) ∙ new in
    subst (IsDistinct (eq_by_cmp name_cmp)) (sym (keys_of-append es ((k, v) ∷ []))) (IsDistinct-push names_equiv (keys_of es) k once absent)

pub plan_more : (rows : List LayoutRow) (r : LayoutRow) → has_id (layout_in rows) r ≡ false → layout_in (rows ++ r ∷ []) ≡ with_row (layout_in rows) r
plan_more rows (row.Node id) new =
    let r = row.Node id in
    same_parts _ _ _ _ _ _ (ap (set.from_list {R = name_cmp}) (this_kind node_in rows [] r id refl) ∙ set.from_list_push names_total names_apart (nodes_in rows) id)
    (ap (map.from_entries {R = name_cmp}) (other_kind edge_in rows r refl)) (ap (map.from_entries {R = name_cmp}) (other_kind station_in rows r refl))
plan_more rows (row.Edge id start finish) new =
    let r = row.Edge id start finish in
    same_parts _ _ _ _ _ _ (ap (set.from_list {R = name_cmp}) (other_kind node_in rows r refl))
    (ap (map.from_entries {R = name_cmp}) (this_kind edge_in rows [] r _ refl) ∙ entry_pushed (edges_in rows) id _ new) (ap (map.from_entries {R = name_cmp}) (other_kind station_in rows r refl))
plan_more rows (row.Station id node capacity) new =
    let r = row.Station id node capacity in
    same_parts _ _ _ _ _ _ (ap (set.from_list {R = name_cmp}) (other_kind node_in rows r refl))
    (ap (map.from_entries {R = name_cmp}) (other_kind edge_in rows r refl)) (ap (map.from_entries {R = name_cmp}) (this_kind station_in rows [] r _ refl) ∙ entry_pushed (stations_in rows) id _ new)

distinct_ids : List Name → Type 0
distinct_ids ids = IsDistinct (eq_by_cmp name_cmp) ids

distinct_keys : {X : Type 0} → List (Name × X) → Type 0
distinct_keys es = IsDistinct (eq_by_cmp name_cmp) (keys_of es)

pub distinct_more : (rows : List LayoutRow) (r : LayoutRow) → AreDistinct rows → has_id (layout_in rows) r ≡ false → AreDistinct (rows ++ r ∷ [])
unfolding distinct_ids distinct_keys
distinct_more rows (row.Node id) d new =
    let r = row.Node id in
    record {
      nodes = subst distinct_ids (sym (this_kind node_in rows [] r id refl)) (IsDistinct-push names_equiv (nodes_in rows) id d.nodes (sym (contains-shown (nodes_in rows) id) ∙ new));
      edges = subst distinct_keys (sym (other_kind edge_in rows r refl)) d.edges;
      stations = subst distinct_keys (sym (other_kind station_in rows r refl)) d.stations;
    }
distinct_more rows (row.Edge id start finish) d new =
    let r = row.Edge id start finish in
    record {
      nodes = subst distinct_ids (sym (other_kind node_in rows r refl)) d.nodes;
      edges = subst distinct_keys (sym (this_kind edge_in rows [] r _ refl)) (keys_pushed (edges_in rows) id _ new d.edges);
      stations = subst distinct_keys (sym (other_kind station_in rows r refl)) d.stations;
    }
distinct_more rows (row.Station id node capacity) d new =
    let r = row.Station id node capacity in
    record {
      nodes = subst distinct_ids (sym (other_kind node_in rows r refl)) d.nodes;
      edges = subst distinct_keys (sym (other_kind edge_in rows r refl)) d.edges;
      stations = subst distinct_keys (sym (this_kind station_in rows [] r _ refl)) (keys_pushed (stations_in rows) id _ new d.stations);
    }

-- ---- an id that is there already
not_again : (ids more : List Name) (id : Name) → list_any (is_at (name_cmp id)) ids ≡ true → Differ (ids ++ id ∷ more) → ⊥
not_again ids more id has differ =
    let at = Contains-from_any same_name id ids has in
    let later : length ids < length (ids ++ id ∷ more) = omega (arith, length-append ids (id ∷ more)) in
    differ at.0 (length ids) id at.1 later
    (get_or_append_left ids (id ∷ more) id at.0 at.1 ∙ at.2 ∙ sym (get_or_at ids id more id (length ids) refl))

keys_not_again : {X : Type 0} (es more : List (Name × X)) (k : Name) (v : X) → is_some (map.get (map.from_entries {R = name_cmp} es) k) ≡ true → Differ (keys_of (es ++ (k, v) ∷ more)) → ⊥
keys_not_again es more k v has differ =
    not_again (keys_of es) (keys_of more) k (sym (ap is_some (get-shown es k) ∙ is_some-lookup (is_at (name_cmp k)) es) ∙ has)
    (subst Differ (keys_of-append es ((k, v) ∷ more)) differ)

pub twice : (rows more : List LayoutRow) (r : LayoutRow) → has_id (layout_in rows) r ≡ true → IsEachOnce (rows ++ r ∷ more) → ⊥
twice rows more (row.Node id) has once =
    not_again (nodes_in rows) (nodes_in more) id (sym (contains-shown (nodes_in rows) id) ∙ has) (subst Differ (this_kind node_in rows more _ id refl) once.nodes)
twice rows more (row.Edge id start finish) has once =
    keys_not_again (edges_in rows) (edges_in more) id _ has (subst (λ es. Differ (keys_of es)) (this_kind edge_in rows more _ _ refl) once.edges)
twice rows more (row.Station id node capacity) has once =
    keys_not_again (stations_in rows) (stations_in more) id _ has (subst (λ es. Differ (keys_of es)) (this_kind station_in rows more _ _ refl) once.stations)

-- ---- a step of the loop over rows
pub split_at : (rows : List LayoutRow) (i : ℕ) (r : LayoutRow) → i < length rows → r ≡ get_or rows i r → rows ≡ take i rows ++ r ∷ drop (i + 1) rows
split_at rows i r within is =
    sym (take-append-drop i rows) ∙ ap (λ l. take i rows ++ l) (drop-cons rows i r within ∙ ap (λ x. x ∷ drop (suc i) rows) (sym is) ∙ ap (λ n. r ∷ drop n rows) (sym (add-one i)))

-- ---- a step of the count
module _ {Y : Type 0} (says : LayoutRow → Option Y) (rows : List LayoutRow) (i : ℕ) (r : LayoutRow) (within : i < length rows) (is : r ≡ get_or rows i r) where
  seen_more : take (i + 1) rows ≡ take i rows ++ r ∷ []
  seen_more = take_more rows i r within ∙ ap (λ x. take i rows ++ x ∷ []) (sym is)

  pub counted : (y : Y) (n m : ℕ) → says r ≡ Some y → n ≡ length (filter_map says (take i rows)) → m ≡ n + 1 → m ≡ length (filter_map says (take (i + 1) rows))
  counted y n m some before more =
      let all = ap (λ xs. length (filter_map says xs)) seen_more ∙ ap length (this_kind says (take i rows) [] r y some) ∙ length-append (filter_map says (take i rows)) (y ∷ []) in
      omega (arith, all, before, more)

  pub passed : (n m : ℕ) → says r ≡ None → n ≡ length (filter_map says (take i rows)) → m ≡ n → m ≡ length (filter_map says (take (i + 1) rows))
  passed n m none before more = more ∙ before ∙ sym (ap (λ xs. length (filter_map says xs)) seen_more ∙ ap length (other_kind says (take i rows) r none))
