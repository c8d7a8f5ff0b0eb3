-- The rows of loads, jobs, used names and a first layout, once written, are those of the world with them.
use Rattle.std.proofs.Common.{◌≡◌, ◌||◌, ◌⊎◌, inl, inr, ℕ, Bool, true, false, cond, List, [], ◌∷◌, map, Some, Ordering, refl, sym, ap, ◌∙◌}
use Rattle.std.specs.Cmp.{IsTotalOrder}
use Rattle.std.specs.FinMap.{FinMap, IsAntisymmetric, empty, get, insert, entries, find, get-empty, get-insert, get-entries, same_map}
use Rattle.std.specs.FinSet as set
use Rattle.std.specs.List.{AllByRecursion, list_any}
use Rattle.std.specs.Ordering.{eq_by_cmp}
use Rattle.agv_layout.specs.Layout.{Layout, AreNodesInOrder}
use Rattle.agv_layout.specs.LayoutOf.{nodes_of}
use Rattle.agv_layout.specs.declared.edge.EdgeEnds.{EdgeEnds}
use Rattle.agv_stock.specs.declared.place.Place.{Place}
use Rattle.agv_world_core.specs.Changes.{changed}
use Rattle.agv_world_core.specs.Maps.{Maps, maps_of}
use Rattle.agv_world_core.specs.TableChanges.{written, load_changes, job_changes, with_use, layout_changes}
use Rattle.agv_world_core.specs.Worlds.{World, empty_layout}
use Rattle.agv_world_core.specs.declared.change.Change.TheVariants as row
use Rattle.agv_world_core.specs.declared.key.UseKey.{UseKey}
use Rattle.agv_world_core.specs.declared.key.UseKind.{UseKind}
use Rattle.agv_world_core.specs.declared.key.UseKind.TheVariants.{Order, Reference}
use Rattle.agv_world_core.specs.declared.row.JobRow.{JobRow}
use Rattle.agv_world_core.proofs.row_changes.ChangeRuns.{joined, changed-append, changed-loads, changed-jobs, changed-nodes, changed-edges, changed-stations}
use Rattle.agv_world_core.proofs.lists.Entries.{no_more, is_same, alike, entries_found}
use Rattle.agv_world_core.proofs.lists.Orders.{names_total, names_apart}
use Rattle.agv_world_core.proofs.lists.Puts.{put_cases}
use Rattle.agv_world_core.proofs.world_rows.UsedKeys.{or_none, used_now}

-- ---- loads, jobs, used names
pub loads_written : (world : World) (moves : List (List ℕ × Place)) → changed (load_changes moves) (maps_of world) ≡ maps_of (record world { places = written world.places moves })
loads_written world moves = changed-loads moves (maps_of world)

pub jobs_written : (world : World) (jobs : List (List ℕ × JobRow)) → changed (job_changes jobs) (maps_of world) ≡ maps_of (record world { jobs = written world.jobs jobs })
jobs_written world jobs = changed-jobs jobs (maps_of world)

with_name : (world : World) (kind : UseKind) (name : List ℕ) → record (maps_of world) { used = (maps_of (with_use world kind name)).used } ≡ maps_of (with_use world kind name)
with_name world Order name = refl
with_name world Reference name = refl

pub use_written : (world : World) (key : UseKey) → changed (row.Used key ∷ []) (maps_of world) ≡ maps_of (with_use world key.kind key.name)
unfolding changed
use_written world key = ap (λ keys. record (maps_of world) { used = keys }) (used_now world key) ∙ with_name world key.kind key.name

-- ---- all entries of a map, written into an empty one
module _ {K X : Type 0} {R : K → K → Ordering} (total : IsTotalOrder R) (apart : IsAntisymmetric R) (m : FinMap R X) where
  abbrev Within : FinMap R X → Type 0
  Within t = (q : K) (y : X) → get t q ≡ Some y → get m q ≡ Some y

  within_put : (t : FinMap R X) (k : K) (v : X) → get m k ≡ Some v → Within t → Within (insert t k v)
  within_put t k v at within q y e = elim (put_cases total apart t k v q y e) [
    | inl s ↦ ap (get m) s.0 ∙ at ∙ ap Some (sym s.1)
    | inr s ↦ within q y s.1
  ]

  all_within : (t : FinMap R X) (es : List (K × X)) → AllByRecursion (λ (e : K × X). get m e.0 ≡ Some e.1) es → Within t → Within (written t es)
  all_within t [] found within = within
  all_within t (e ∷ es) found within = all_within (insert t e.0 e.1) es found.1 (within_put t e.0 e.1 found.0 within)

  kept : (t : FinMap R X) (es : List (K × X)) → AllByRecursion (λ (e : K × X). get m e.0 ≡ Some e.1) es → (q : K) (y : X) → get m q ≡ Some y → (get t q ≡ Some y) ⊎ (find R q es ≡ Some y) → get (written t es) q ≡ Some y
  kept t [] found q y at (inl e) = e
  kept t [] found q y at (inr e) = absurd (no_more y e)
  kept t (e ∷ es) found q y at had = kept (insert t e.0 e.1) es found.1 q y at (elim (eq_by_cmp R q e.0) as (λ b. eq_by_cmp R q e.0 ≡ b
      → (get t q ≡ Some y) ⊎ (cond b (Some e.1) (find R q es) ≡ Some y) → (get (insert t e.0 e.1) q ≡ Some y) ⊎ (find R q es ≡ Some y)) [
        | true ↦ λ s h. inl (get-insert total t e.0 e.1 q ∙ ap (λ b. cond b (Some e.1) (get t q)) s ∙ sym found.0 ∙ ap (get m) (sym (is_same apart q e.0 s)) ∙ at)
        | false ↦ λ s h. elim h [
          | inl here ↦ inl (get-insert total t e.0 e.1 q ∙ ap (λ b. cond b (Some e.1) (get t q)) s ∙ here)
          | inr later ↦ inr later
        ]
      ] refl had)

  pub moved_all : written empty (entries m) ≡ m
  moved_all = same_map total apart (written empty (entries m)) m (λ q. alike (get (written empty (entries m)) q) (get m q)
      (all_within empty (entries m) (entries_found total m) (λ q y e. absurd (no_more y (sym (get-empty R q) ∙ e))) q)
      (λ y e. kept empty (entries m) (entries_found total m) q y e (inr (sym (get-entries m q) ∙ e))))

-- ---- the items of a list, joined to an empty set
one_or : (a b c : Bool) → (b || (a || c)) ≡ ((a || b) || c)
one_or true true c = refl
one_or true false c = refl
one_or false b c = refl

module _ {K : Type 0} {R : K → K → Ordering} (total : IsTotalOrder R) (apart : IsAntisymmetric R) where
  contains-joined : (s : set.FinSet R) (xs : List K) (q : K) → set.contains (joined s xs) q ≡ (list_any (eq_by_cmp R q) xs || set.contains s q)
  contains-joined s [] q = refl
  contains-joined s (x ∷ xs) q =
      contains-joined (set.insert s x) xs q
      ∙ ap (λ b. list_any (eq_by_cmp R q) xs || b) (set.contains-insert total s x q)
      ∙ one_or (eq_by_cmp R q x) (list_any (eq_by_cmp R q) xs) (set.contains s q)

  pub joined_all : (xs : List K) → joined set.empty xs ≡ set.from_list {R = R} xs
  joined_all xs = set.same_set total apart (joined set.empty xs) (set.from_list xs) (λ q.
      contains-joined set.empty xs q
      ∙ ap (λ b. list_any (eq_by_cmp R q) xs || b) (set.contains-empty R q)
      ∙ or_none _
      ∙ sym (set.contains-from_list total xs q))

-- ---- the layout
pub layout_written : (world : World) (layout : Layout) → AreNodesInOrder layout (nodes_of layout) → world.layout ≡ empty_layout
    → changed (layout_changes layout) (maps_of world) ≡ maps_of (record world { layout = layout })
layout_written world layout listed none =
    let first : Maps = maps_of world in
    let second : Maps = record first { nodes = joined first.nodes (nodes_of layout) } in
    let third : Maps = record second { edges = written first.edges (entries layout.edges) } in
    let nodes : joined first.nodes (nodes_of layout) ≡ layout.nodes = ap (λ (l : Layout). joined l.nodes (nodes_of layout)) none ∙ joined_all names_total names_apart (nodes_of layout) ∙ listed.all in
    let edges : written first.edges (entries layout.edges) ≡ layout.edges = ap (λ (l : Layout). written l.edges (entries layout.edges)) none ∙ moved_all names_total names_apart layout.edges in
    let stations : written first.stations (entries layout.stations) ≡ layout.stations = ap (λ (l : Layout). written l.stations (entries layout.stations)) none ∙ moved_all names_total names_apart layout.stations in
    changed-append (map (λ (id : List ℕ). row.Node id) (nodes_of layout)) _ first
    ∙ ap (changed _) (changed-nodes (nodes_of layout) first)
    ∙ changed-append (map (λ (edge : List ℕ × EdgeEnds). row.Edge edge.0 edge.1) (entries layout.edges)) _ second
    ∙ ap (changed _) (changed-edges (entries layout.edges) second)
    ∙ changed-stations (entries layout.stations) third
    ∙ (λ i. record first { nodes = nodes i; edges = edges i; stations = stations i })
