-- What the tests of a draft compute, against what holds of a layout.
use Rattle.std.proofs.Common.{arith, ◌≡◌, ℕ, ◌≤◌, Bool, true, not, List, [], ◌∷◌, length, Decides, nat_le, refl, sym, true≢false, pos_of_ne-zero, ◌∙◌}
use Rattle.std.specs.Cmp.Lexicographic.{bytes_decides}
use Rattle.std.specs.FinMap as map
use Rattle.std.specs.FinSet as set
use Rattle.std.specs.BTreeMap.{is_at}
use Rattle.std.specs.List.{list_all, list_any}
use Rattle.std.specs.List.Sorted.{IsStrictlySortedBy}
use Rattle.std.specs.Map.{keys_of, values_of}
use Rattle.std.proofs.lemmas.Bool.{cond_both, leb-true, le-leb}
use Rattle.std.proofs.lemmas.Bool.Decides.{Decides-at, Decides-and, Decides-not, Decides-like, Decides-by_and}
use Rattle.std.proofs.lemmas.Map.Keys.{IsDistinct-from_sorted}
use Rattle.agv_header.specs.Name.{name_cmp}
use Rattle.agv_layout.specs.declared.draft.Draft.{Draft}
use Rattle.agv_layout.specs.declared.edge.EdgeEnds.{EdgeEnds}
use Rattle.agv_layout.specs.declared.station.StationSite.{StationSite}
use Rattle.agv_layout.specs.Draft.{drawn, leads_in_draft, stands_in_draft, HasNode, AllLead, AllStand}
use Rattle.agv_layout.specs.Layout.{Name, Layout, IsNode, Leads, StationFits}
use Rattle.agv_layout.proofs.Maps.{names_total, contains-shown, each_found, all_values}

-- layouts with equal parts are equal
pub same_parts : (a b : set.FinSet name_cmp) (c d : map.FinMap name_cmp EdgeEnds) (e f : map.FinMap name_cmp StationSite) → a ≡ b → c ≡ d → e ≡ f
    → ◌≡◌ {A = Layout} (record { nodes = a; edges = c; stations = e }) (record { nodes = b; edges = d; stations = f })
same_parts a b c d e f p q r = λ i. record { nodes = p i; edges = q i; stations = r i }

node-Decides : (draft : Draft) (id : Name) → Decides (set.contains (drawn draft).nodes id) (IsNode (drawn draft) id)
node-Decides draft id = (λ has. has, λ has. has)

leads-Decides : (draft : Draft) (ends : EdgeEnds) → Decides (leads_in_draft draft ends) (Leads (drawn draft) ends)
leads-Decides draft ends =
    let at = λ (id : Name). Decides-at _ _ (sym (contains-shown draft.nodes.keys id)) (node-Decides draft id) in
    Decides-like _ (λ w. (w.0, w.1.0, w.1.1)) (λ w. (w.0, (w.1, w.2)))
    (Decides-and _ _ (at ends.start) (Decides-and _ _ (at ends.finish) (Decides-not _ (bytes_decides ends.start ends.finish))))

pub le-Decides : (a b : ℕ) → Decides (nat_le a b) (a ≤ b)
le-Decides a b = (leb-true a b, le-leb a b)

stands-Decides : (draft : Draft) (site : StationSite) → Decides (stands_in_draft draft site) (StationFits (drawn draft) site)
stands-Decides draft site =
    let at = Decides-at _ _ (sym (contains-shown draft.nodes.keys site.node)) (node-Decides draft site.node) in
    Decides-like _ (λ w. (w.0, w.1.0, w.1.1)) (λ w. (w.0, (w.1, w.2)))
    (Decides-and _ _ at (Decides-and _ _ (le-Decides 1 site.capacity) (le-Decides site.capacity 999)))

pub AllLead-Decides : (draft : Draft) → IsStrictlySortedBy name_cmp (keys_of draft.edges.entries) → Decides (list_all (leads_in_draft draft) (values_of draft.edges.entries)) (AllLead (drawn draft))
AllLead-Decides draft ordered =
    let es = draft.edges.entries in
    let P = Leads (drawn draft) in
    Decides-like _ (each_found P es) (all_values P es (IsDistinct-from_sorted name_cmp (keys_of es) ordered))
    (Decides-by_and (leads_in_draft draft) P (list_all (leads_in_draft draft)) (leads-Decides draft) refl (λ _ _. refl) (values_of es))

pub AllStand-Decides : (draft : Draft) → IsStrictlySortedBy name_cmp (keys_of draft.stations.entries) → Decides (list_all (stands_in_draft draft) (values_of draft.stations.entries)) (AllStand (drawn draft))
AllStand-Decides draft ordered =
    let es = draft.stations.entries in
    let P = StationFits (drawn draft) in
    Decides-like _ (each_found P es) (all_values P es (IsDistinct-from_sorted name_cmp (keys_of es) ordered))
    (Decides-by_and (stands_in_draft draft) P (list_all (stands_in_draft draft)) (stands-Decides draft) refl (λ _ _. refl) (values_of es))

-- ---- whether there is a node
any_some : (ks : List Name) (k : Name) → list_any (is_at (name_cmp k)) ks ≡ true → 1 ≤ length ks
any_some [] k has = absurd (true≢false (sym has))
any_some (x ∷ ks) k has = omega arith

some-shown : (ks : List Name) → 1 ≤ length ks → 1 ≤ set.len (set.from_list {R = name_cmp} ks)
some-shown [] h = absurd (omega arith)
some-shown (k ∷ ks) h =
    rw (set.len-insert names_total (set.from_list ks) k) (cond_both (set.contains (set.from_list ks) k) _ _ (λ n. 1 ≤ n) (λ has. some-shown ks (any_some ks k (sym (contains-shown ks k) ∙ has))) (λ _. omega arith))

none-shown : (ks : List Name) → length ks ≡ 0 → set.len (set.from_list {R = name_cmp} ks) ≡ 0
none-shown [] h = set.len-empty name_cmp
none-shown (k ∷ ks) h = absurd (omega arith)

-- as `is_empty` tells it
pub some_decides : (draft : Draft) (empty : Bool) → Decides empty (length draft.nodes.keys ≡ 0) → Decides (not empty) (HasNode (drawn draft))
some_decides draft empty tells =
    let ks = draft.nodes.keys in
    Decides-like _ (λ some. some-shown ks (pos_of_ne-zero some)) (λ some is. let none = none-shown ks is in omega (arith, none, some)) (Decides-not empty tells)
