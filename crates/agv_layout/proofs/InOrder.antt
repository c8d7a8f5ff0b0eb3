-- What is kept in the order of names is listed so.
use Rattle.std.proofs.Common.{◌≡◌, ℕ, Bool, true, false, T, Ordering, Less, Equal, Greater, is_lt, List, [], ◌∷◌, map, length, Option, None, Some, is_some, true≢false, refl, sym, ap, subst, ◌∙◌}
use Rattle.std.specs.FinMap as map
use Rattle.std.specs.FinMap.Entries.{put, by_order, is_sorted, below_all, is_some-find}
use Rattle.std.specs.FinSet as set
use Rattle.std.specs.List.{AllByRecursion, list_any}
use Rattle.std.specs.List.Sorted.{IsStrictlySortedBy}
use Rattle.std.specs.Map.{keys_of}
use Rattle.std.specs.Ordering.{eq_by_cmp}
use Rattle.std.proofs.lemmas.Bool.{and_parts}
use Rattle.std.proofs.lemmas.List.{nil_from_length}
use Rattle.std.proofs.lemmas.Map.Keys.{sorted_head, sorted_tail, IsDistinct-from_sorted}
use Rattle.agv_header.specs.Name.{name_cmp}
use Rattle.agv_layout.specs.Layout.{Layout}
use Rattle.agv_layout.specs.LayoutOf.{nodes_of}
use Rattle.agv_layout.proofs.Maps.{names_total, names_apart, len-distinct, set_len-distinct}

pub is_true : (b : Bool) → T b → b ≡ true
is_true true h = refl
is_true false h = absurd h

pub is_less : (r : Ordering) → is_lt r ≡ true → r ≡ Less
is_less Less h = refl
is_less Equal h = absurd (true≢false (sym h))
is_less Greater h = absurd (true≢false (sym h))

module _ {X : Type 0} where
  put_first : (k : List ℕ) (v : X) (es : List (List ℕ × X)) → AllByRecursion (λ y. name_cmp k y ≡ Less) (keys_of es) → put name_cmp k v es ≡ (k, v) ∷ es
  put_first k v [] below = refl
  put_first k v (e ∷ es) below = ap (λ o. by_order o ((k, v) ∷ e ∷ es) ((e.0, v) ∷ es) (e ∷ put name_cmp k v es)) below.0

  -- the map of entries in order lists them
  pub entries-shown : (es : List (List ℕ × X)) → IsStrictlySortedBy name_cmp (keys_of es) → map.entries (map.from_entries {R = name_cmp} es) ≡ es
  entries-shown [] ordered = nil_from_length _ (sym (map.len-entries _) ∙ map.len-empty name_cmp X)
  entries-shown (e ∷ es) ordered =
      map.entries-insert names_total (map.from_entries es) e.0 e.1
      ∙ ap (put name_cmp e.0 e.1) (entries-shown es (sorted_tail name_cmp e.0 (keys_of es) ordered))
      ∙ put_first e.0 e.1 es (sorted_head name_cmp e.0 (keys_of es) ordered)

  -- and has as many
  pub len-shown : (es : List (List ℕ × X)) → IsStrictlySortedBy name_cmp (keys_of es) → map.len (map.from_entries {R = name_cmp} es) ≡ length es
  len-shown es ordered = len-distinct es (IsDistinct-from_sorted name_cmp (keys_of es) ordered)

-- the set of names in order has as many
pub set_len-shown : (ks : List (List ℕ)) → IsStrictlySortedBy name_cmp ks → set.len (set.from_list {R = name_cmp} ks) ≡ length ks
set_len-shown ks ordered = set_len-distinct ks (IsDistinct-from_sorted name_cmp ks ordered)

-- ---- what a map lists is in order, and gives the map again
module _ {X : Type 0} where
  keys_below : (k : List ℕ) (es : List (List ℕ × X)) → below_all name_cmp k es ≡ true → AllByRecursion (λ y. name_cmp k y ≡ Less) (keys_of es)
  keys_below k [] below = tt
  keys_below k (e ∷ es) below = let parts = and_parts (is_lt (name_cmp k e.0)) (below_all name_cmp k es) below in (is_less _ parts.0, keys_below k es parts.1)

  keys_sorted : (es : List (List ℕ × X)) → is_sorted name_cmp es ≡ true → IsStrictlySortedBy name_cmp (keys_of es)
  unfolding IsStrictlySortedBy
  keys_sorted [] sorted = tt
  keys_sorted (e ∷ es) sorted = let parts = and_parts (below_all name_cmp e.0 es) (is_sorted name_cmp es) sorted in (keys_below e.0 es parts.0, keys_sorted es parts.1)

  pub keys_in_order : (m : map.FinMap name_cmp X) → IsStrictlySortedBy name_cmp (keys_of (map.entries m))
  keys_in_order m = keys_sorted (map.entries m) (is_true _ (map.entries_sorted m))

  pub from_its_entries : (m : map.FinMap name_cmp X) → map.from_entries (map.entries m) ≡ m
  from_its_entries m = map.same_map names_total names_apart _ _ (λ q. map.get-from_entries names_total (map.entries m) q ∙ sym (map.get-entries m q))

-- ---- the nodes of a layout
abbrev marked : List (List ℕ) → List (List ℕ × Unit {0})
marked ids = map (λ id. (id, tt)) ids

keys_of-marked : (ids : List (List ℕ)) → keys_of (marked ids) ≡ ids
keys_of-marked [] = refl
keys_of-marked (id ∷ ids) = ap (λ l. id ∷ l) (keys_of-marked ids)

some_marked : (ids : List (List ℕ)) (q : List ℕ) → is_some (map.get (map.from_entries {R = name_cmp} (marked ids)) q) ≡ list_any (eq_by_cmp name_cmp q) ids
some_marked ids q = ap is_some (map.get-from_entries names_total (marked ids) q) ∙ is_some-find name_cmp q (marked ids) ∙ ap (list_any (eq_by_cmp name_cmp q)) (keys_of-marked ids)

same_mark : (o p : Option (Unit {0})) → is_some o ≡ is_some p → o ≡ p
same_mark None None e = refl
same_mark None (Some y) e = absurd (true≢false (sym e))
same_mark (Some x) None e = absurd (true≢false e)
same_mark (Some x) (Some y) e = refl

module _ (layout : Layout) where
  pub nodes_in_order : IsStrictlySortedBy name_cmp (nodes_of layout)
  nodes_in_order = keys_in_order (map.from_entries (marked (set.items layout.nodes)))

  pub from_its_nodes : set.from_list (nodes_of layout) ≡ layout.nodes
  from_its_nodes =
      set.same_set names_total names_apart _ _ (λ q. set.contains-from_list names_total (nodes_of layout) q
      ∙ sym (map.contains_key-keys (map.from_entries (marked (set.items layout.nodes))) q)
      ∙ some_marked (set.items layout.nodes) q
      ∙ sym (set.contains-items layout.nodes q))

  -- names in order that make the set of the nodes are these
  pub nodes-shown : (ids : List (List ℕ)) → IsStrictlySortedBy name_cmp ids → set.from_list ids ≡ layout.nodes → ids ≡ nodes_of layout
  nodes-shown ids ordered all =
      let same : map.from_entries {R = name_cmp} (marked ids) ≡ map.from_entries (marked (set.items layout.nodes)) =
      map.same_map names_total names_apart _ _ (λ q. same_mark _ _
      (some_marked ids q
      ∙ sym (set.contains-from_list names_total ids q)
      ∙ ap (λ (nodes : set.FinSet name_cmp). set.contains nodes q) all
      ∙ set.contains-items layout.nodes q
      ∙ sym (some_marked (set.items layout.nodes) q))) in
      sym (keys_of-marked ids)
      ∙ sym (ap keys_of (entries-shown (marked ids) (subst (IsStrictlySortedBy name_cmp) (sym (keys_of-marked ids)) ordered)))
      ∙ ap map.keys same
