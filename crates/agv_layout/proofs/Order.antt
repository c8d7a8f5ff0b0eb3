-- The order of rows does not count, and rows give one layout at most.
use Rattle.std.proofs.Common.{arith, ℕ, ◌≤◌, ◌↔◌, ◌≡◌, ◌+◌, ◌<◌, List, [], ◌∷◌, length, cond, is_some, Some, None, Option, All, Contains, map, option_map, inl, inr, ⊎_elim, refl, sym, ap, subst, ◌∙◌, sum_by}
use Rattle.std.specs.FinMap as map
use Rattle.std.specs.FinSet as set
use Rattle.std.specs.List.{filter_map, cons_option}
use Rattle.std.specs.List.Sorted.{IsPermutation}
use Rattle.std.specs.Map.{keys_of, values_of}
use Rattle.std.specs.Ordering.{eq_by_cmp}
use Rattle.std.specs.Set.{is_member}
use Rattle.std.proofs.lemmas.Bool.Decides.{same_from_decides, Decides-like}
use Rattle.std.proofs.lemmas.List.Elements.{All-weaker, All-contains, Contains-get_or}
use Rattle.std.proofs.lemmas.List.Recursion.{is_sum_by}
use Rattle.std.proofs.lemmas.List.Sorted.{IsPermutation-sym, Contains-permutation, sum_by-IsPermutation}
use Rattle.std.proofs.lemmas.Map.Made.{is_member-Decides, length-from_keys, IsDistinct-from_count, AllPairs-from_IsDistinct, IsDistinct-from_AllPairs}
use Rattle.agv_header.specs.Name.{IsName, name_cmp}
use Rattle.agv_layout.specs.declared.row.LayoutRow.{LayoutRow}
use Rattle.agv_layout.specs.declared.row.LayoutRow.TheVariants as row
use Rattle.agv_layout.specs.LayoutOf.{layout_in}
use Rattle.agv_layout.specs.Layout.{Name, Layout, KeepsRules}
use Rattle.agv_layout.specs.Rows.{node_in, edge_in, station_in, nodes_in, edges_in, stations_in, Differ, LeadsAmong, StandsAmong, AreNamed, id_in, IsEachOnce, IsOverLimit, IsSound, IsLayoutOf, IsReadAlike}
use Rattle.agv_layout.proofs.Drafts.{same_parts}
use Rattle.agv_layout.proofs.Maps.{names_total, names_apart, names_equiv, decides_name, len-distinct, set_len-distinct}
use Rattle.agv_layout.proofs.Rows.{AreDistinct, distinct_from}
use Rattle.agv_layout.proofs.Sound.{said, sayer, is_layout_of, sound_from}

-- ---- what is read of rows in another order
one_more : {Y : Type 0} (o : Option Y) (ys : List Y) → length (cons_option o ys) ≡ cond (is_some o) 1 0 + length ys
one_more None ys = omega arith
one_more (Some y) ys = omega arith

module _ {Y : Type 0} (says : LayoutRow → Option Y) (rows others : List LayoutRow) (p : IsPermutation rows others) where
  count_said : (xs : List LayoutRow) → length (filter_map says xs) ≡ sum_by (λ r. cond (is_some (says r)) 1 0) xs
  count_said = is_sum_by (λ xs. length (filter_map says xs)) (λ r. cond (is_some (says r)) 1 0) refl (λ r xs. one_more (says r) (filter_map says xs))

  length_said : length (filter_map says others) ≡ length (filter_map says rows)
  length_said = count_said others ∙ sum_by-IsPermutation (λ r. cond (is_some (says r)) 1 0) rows others p ∙ sym (count_said rows)

  among_said : (y : Y) → Contains (filter_map says rows) y → Contains (filter_map says others) y
  among_said y among = let from = sayer says rows y among in said says others from.0 y (Contains-permutation rows others from.0 p from.1) from.2

all_said : {Y : Type 0} (says : LayoutRow → Option Y) (rows others : List LayoutRow) → IsPermutation rows others → (P : Y → Type 0) → All P (filter_map says rows) → All P (filter_map says others)
all_said says rows others p P all =
    λ k d lt. All-contains P (filter_map says rows) _ all (among_said says others rows (IsPermutation-sym rows others p) _ (Contains-get_or (filter_map says others) k d lt))

differ_said : (says : LayoutRow → Option Name) (rows others : List LayoutRow) → IsPermutation rows others → Differ (filter_map says rows) → Differ (filter_map says others)
differ_said says rows others p differ =
    let xs = filter_map says rows in
    let ys = filter_map says others in
    let same = λ (q : Name). same_from_decides (is_member (eq_by_cmp name_cmp) xs q) (is_member (eq_by_cmp name_cmp) ys q)
    (Decides-like _ (among_said says rows others p q) (among_said says others rows (IsPermutation-sym rows others p) q) (is_member-Decides decides_name xs q)) (is_member-Decides decides_name ys q) in
    let count = length-from_keys names_equiv xs ys (IsDistinct-from_AllPairs decides_name xs differ) same in
    AllPairs-from_IsDistinct decides_name ys (IsDistinct-from_count names_equiv ys (sym count ∙ sym (length_said says rows others p)))

-- ---- keys and values are read of rows too
map-filter_map : {X Y Z : Type 0} (g : Y → Z) (f : X → Option Y) (xs : List X) → map g (filter_map f xs) ≡ filter_map (λ x. option_map g (f x)) xs
map-filter_map g f [] = refl
map-filter_map g f (x ∷ xs) =
    let rest = map-filter_map g f xs in
    elim (f x) as (λ o. map g (cons_option o (filter_map f xs)) ≡ cons_option (option_map g o) (filter_map (λ x. option_map g (f x)) xs)) [ None ↦ rest | Some y ↦ ap (λ l. g y ∷ l) rest ]

module _ {X : Type 0} (says : LayoutRow → Option (Name × X)) (rows others : List LayoutRow) (p : IsPermutation rows others) where
  abbrev key : Name × X → Name
  key e = e.0

  abbrev value : Name × X → X
  value e = e.1

  differ_keys : Differ (keys_of (filter_map says rows)) → Differ (keys_of (filter_map says others))
  differ_keys differ =
      subst Differ (sym (map-filter_map key says others)) (differ_said (λ r. option_map key (says r)) rows others p (subst Differ (map-filter_map key says rows) differ))

  all_values_said : (P : X → Type 0) → All P (values_of (filter_map says rows)) → All P (values_of (filter_map says others))
  all_values_said P all =
      subst (All P) (sym (map-filter_map value says others)) (all_said (λ r. option_map value (says r)) rows others p P (subst (All P) (map-filter_map value says rows) all))

once_said : (rows others : List LayoutRow) → IsPermutation rows others → IsEachOnce rows → IsEachOnce others
once_said rows others p once = record {
  nodes = differ_said node_in rows others p once.nodes;
  edges = differ_keys edge_in rows others p once.edges;
  stations = differ_keys station_in rows others p once.stations;
}

over_said : (rows others : List LayoutRow) → IsPermutation rows others → IsOverLimit rows → IsOverLimit others
over_said rows others p =
    ⊎_elim (λ nodes. inl (subst (λ n. 500 < n) (sym (length_said node_in rows others p)) nodes))
    (⊎_elim (λ edges. inr (inl (subst (λ n. 1500 < n) (sym (length_said edge_in rows others p)) edges)))
    (λ stations. inr (inr (subst (λ n. 500 < n) (sym (length_said station_in rows others p)) stations))))

sound_said : (rows others : List LayoutRow) → IsPermutation rows others → IsSound rows → IsSound others
sound_said rows others p sound =
    let node = among_said node_in rows others p in
    record {
      some = subst (λ n. 1 ≤ n) (sym (length_said node_in rows others p)) sound.some;
      once = once_said rows others p sound.once;
      leads = All-weaker (LeadsAmong (nodes_in rows)) (LeadsAmong (nodes_in others)) (λ ends leads. (node ends.start leads.0, node ends.finish leads.1, leads.2)) (values_of (edges_in others))
          (all_values_said edge_in rows others p (LeadsAmong (nodes_in rows)) sound.leads);
      stands = All-weaker (StandsAmong (nodes_in rows)) (StandsAmong (nodes_in others)) (λ site stands. (node site.node stands.0, stands.1, stands.2)) (values_of (stations_in others))
          (all_values_said station_in rows others p (StandsAmong (nodes_in rows)) sound.stands);
    }

layout_said : (rows others : List LayoutRow) → IsPermutation rows others → (layout : Layout) → IsLayoutOf rows layout → IsLayoutOf others layout
layout_said rows others p layout is =
    let there = λ (r : LayoutRow) (among : Contains rows r). Contains-permutation rows others r p among in
    let back = λ (r : LayoutRow) (among : Contains others r). Contains-permutation others rows r (IsPermutation-sym rows others p) among in
    record {
      nodes = λ id. (λ has. there _ ((is.nodes id).0 has), λ among. (is.nodes id).1 (back _ among));
      edges = λ id ends. (λ has. there _ ((is.edges id ends).0 has), λ among. (is.edges id ends).1 (back _ among));
      stations = λ id site. (λ has. there _ ((is.stations id site).0 has), λ among. (is.stations id site).1 (back _ among));
    }

pub read_alike : (rows others : List LayoutRow) → IsPermutation rows others → IsReadAlike rows others
read_alike rows others p =
    let q = IsPermutation-sym rows others p in
    record {
      limit = (over_said rows others p, over_said others rows q);
      sound = (sound_said rows others p, sound_said others rows q);
      layout = λ layout. (layout_said rows others p layout, layout_said others rows q layout);
    }

-- ---- one layout at most
same_option : {X : Type 0} (o p : Option X) → ((x : X) → o ≡ Some x → p ≡ Some x) → ((x : X) → p ≡ Some x → o ≡ Some x) → o ≡ p
same_option None None there back = refl
same_option None (Some x) there back = back x refl
same_option (Some x) p there back = sym (there x refl)

same_values : {X : Type 0} (m n : map.FinMap name_cmp X) (P : Name → X → Type 0) → ((q : Name) (x : X) → (map.get m q ≡ Some x) ↔ P q x) → ((q : Name) (x : X) → (map.get n q ≡ Some x) ↔ P q x) → m ≡ n
same_values m n P one other =
    map.same_map names_total names_apart m n (λ q. same_option _ _ (λ x is. (other q x).1 ((one q x).0 is)) (λ x is. (one q x).1 ((other q x).0 is)))

pub one_layout : (rows : List LayoutRow) (one other : Layout) → IsLayoutOf rows one → IsLayoutOf rows other → one ≡ other
one_layout rows one other is was =
    same_parts _ _ _ _ _ _
    (set.same_set names_total names_apart one.nodes other.nodes (λ q. same_from_decides _ _ (is.nodes q) (was.nodes q)))
    (same_values one.edges other.edges _ is.edges was.edges)
    (same_values one.stations other.stations _ is.stations was.stations)

-- ---- rows that a layout gives back
within_limits : (rows : List LayoutRow) → AreDistinct rows → KeepsRules (layout_in rows) → IsOverLimit rows → ⊥
within_limits rows d plan =
    let few_nodes = subst (λ n. n ≤ 500) (set_len-distinct (nodes_in rows) d.nodes) plan.few_nodes in
    let few_edges = subst (λ n. n ≤ 1500) (len-distinct (edges_in rows) d.edges) plan.few_edges in
    let few_stations = subst (λ n. n ≤ 500) (len-distinct (stations_in rows) d.stations) plan.few_stations in
    ⊎_elim (λ over. absurd (too_many few_nodes over)) (⊎_elim (λ over. absurd (too_many few_edges over)) (λ over. absurd (too_many few_stations over)))
  where
    too_many : {n most : ℕ} → n ≤ most → most < n → ⊥
    too_many few over = omega arith

each_named : (rows : List LayoutRow) (layout : Layout) → IsLayoutOf rows layout → KeepsRules layout → (r : LayoutRow) → Contains rows r → IsName (id_in r)
each_named rows layout is plan (row.Node id) among = plan.nodes_named id ((is.nodes id).1 among)
each_named rows layout is plan (row.Edge id start finish) among = plan.edges_named id _ ((is.edges id (record { start = start; finish = finish })).1 among)
each_named rows layout is plan (row.Station id node capacity) among = plan.stations_named id _ ((is.stations id (record { node = node; capacity = capacity })).1 among)

pub rows_of_layout : (rows : List LayoutRow) (layout : Layout) → IsEachOnce rows → IsLayoutOf rows layout → KeepsRules layout → (¬ IsOverLimit rows) × IsSound rows × AreNamed rows
rows_of_layout rows layout once is plan =
    let kept : KeepsRules (layout_in rows) = subst KeepsRules (one_layout rows layout (layout_in rows) is (is_layout_of rows once)) plan in (
      within_limits rows (distinct_from rows once) kept,
      sound_from rows once (record { some = kept.some; leads = kept.leads; stands = kept.stands }),
      λ k d lt. each_named rows layout is plan _ (Contains-get_or rows k d lt),
    )
