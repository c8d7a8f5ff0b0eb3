-- A finite map of entries and the tree that keeps them answer alike; so do a finite set and its tree.
use Rattle.std.proofs.Common.{◌≡◌, Bool, true, false, cond, ◌||◌, List, [], ◌∷◌, Some, None, Ordering, Less, refl, sym, ap, ◌∙◌}
use Rattle.std.specs.BTreeMap.{is_at}
use Rattle.std.specs.Cmp.{IsTotalOrder, eq_by_cmp_equiv}
use Rattle.std.specs.FinMap.{IsAntisymmetric, get, insert, remove, entries, from_entries, find, get-from_entries, get-insert, get-remove, entries-insert, len-entries, len-empty, same_map}
use Rattle.std.specs.FinMap.Entries.{put, by_order}
use Rattle.std.specs.FinSet as set
use Rattle.std.specs.List.{list_any, AllByRecursion}
use Rattle.std.specs.List.Sorted.{IsStrictlySortedBy}
use Rattle.std.specs.Map.{keys_of, lookup}
use Rattle.std.specs.Ordering.{eq_by_cmp}
use Rattle.std.proofs.lemmas.List.{nil_from_length}
use Rattle.std.proofs.lemmas.Map.Keys.{sorted_head, sorted_tail}

or-cond : (b c : Bool) → cond b true c ≡ (b || c)
or-cond true c = refl
or-cond false c = refl

-- ---- maps in order
module _ {K X : Type 0} {R : K → K → Ordering} (total : IsTotalOrder R) where
  put_first : (k : K) (v : X) (es : List (K × X)) → AllByRecursion (λ y. R k y ≡ Less) (keys_of es) → put R k v es ≡ (k, v) ∷ es
  put_first k v [] below = refl
  put_first k v (e ∷ es) below = ap (λ o. by_order o ((k, v) ∷ e ∷ es) ((e.0, v) ∷ es) (e ∷ put R k v es)) below.0

  -- the map of entries in order lists them
  pub entries-shown : (es : List (K × X)) → IsStrictlySortedBy R (keys_of es) → entries (from_entries {R = R} es) ≡ es
  entries-shown [] ordered = nil_from_length _ (sym (len-entries _) ∙ len-empty R X)
  entries-shown (e ∷ es) ordered =
      entries-insert total (from_entries es) e.0 e.1
      ∙ ap (put R e.0 e.1) (entries-shown es (sorted_tail R e.0 (keys_of es) ordered))
      ∙ put_first e.0 e.1 es (sorted_head R e.0 (keys_of es) ordered)

-- ---- maps
module _ {K X : Type 0} {R : K → K → Ordering} (total : IsTotalOrder R) where
  find-lookup : (q : K) (entries : List (K × X)) → find R q entries ≡ lookup (is_at (R q)) entries
  find-lookup q [] = refl
  find-lookup q (e ∷ entries) = ap (cond (eq_by_cmp R q e.0) (Some e.1)) (find-lookup q entries)

  -- the map of the entries has at a key what the tree has
  pub get-shown : (entries : List (K × X)) (q : K) → get (from_entries {R = R} entries) q ≡ lookup (is_at (R q)) entries
  get-shown entries q = get-from_entries total entries q ∙ find-lookup q entries

  module _ (apart : IsAntisymmetric R) where
    -- what `insert` leaves is the map with one more entry
    pub insert-shown : (old new : List (K × X)) (key : K) (row : X)
        → ((q : K) → lookup (is_at (R q)) new ≡ cond (is_at (R key) q) (Some row) (lookup (is_at (R q)) old))
        → from_entries {R = R} new ≡ insert (from_entries old) key row
    insert-shown old new key row updates =
        same_map total apart _ _ (λ q.
        get-shown new q
        ∙ updates q
        ∙ ap (λ b. cond b (Some row) (lookup (is_at (R q)) old)) ((eq_by_cmp_equiv total).symm key q)
        ∙ ap (cond (eq_by_cmp R q key) (Some row)) (sym (get-shown old q))
        ∙ sym (get-insert total _ key row q))

    -- what `remove` leaves is the map without that entry
    pub remove-shown : (old new : List (K × X)) (key : K)
        → ((q : K) → lookup (is_at (R q)) new ≡ cond (is_at (R key) q) None (lookup (is_at (R q)) old))
        → from_entries {R = R} new ≡ remove (from_entries old) key
    remove-shown old new key updates =
        same_map total apart _ _ (λ q.
        get-shown new q
        ∙ updates q
        ∙ ap (λ b. cond b None (lookup (is_at (R q)) old)) ((eq_by_cmp_equiv total).symm key q)
        ∙ ap (cond (eq_by_cmp R q key) None) (sym (get-shown old q))
        ∙ sym (get-remove total _ key q))

-- ---- sets
module _ {K : Type 0} {R : K → K → Ordering} (total : IsTotalOrder R) where
  -- the set of the keys has those that the tree has
  pub contains-shown : (keys : List K) (q : K) → set.contains (set.from_list {R = R} keys) q ≡ list_any (is_at (R q)) keys
  contains-shown keys q = set.contains-from_list total keys q

  -- what `insert` leaves is the set with one more key
  pub set_insert-shown : IsAntisymmetric R → (old new : List K) (key : K)
      → ((q : K) → list_any (is_at (R q)) new ≡ cond (is_at (R key) q) true (list_any (is_at (R q)) old))
      → set.from_list {R = R} new ≡ set.insert (set.from_list old) key
  set_insert-shown apart old new key updates =
      set.same_set total apart _ _ (λ q.
      contains-shown new q
      ∙ updates q
      ∙ or-cond (eq_by_cmp R key q) (list_any (is_at (R q)) old)
      ∙ ap (λ b. b || list_any (is_at (R q)) old) ((eq_by_cmp_equiv total).symm key q)
      ∙ ap (λ b. eq_by_cmp R q key || b) (sym (contains-shown old q))
      ∙ sym (set.contains-insert total _ key q))
