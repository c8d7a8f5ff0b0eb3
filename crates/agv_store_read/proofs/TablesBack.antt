-- The rows from which a table is read are the rows of its entries.
use Rattle.std.proofs.Common.{◌≡◌, ◌++◌, Bool, true, false, cond, List, [], ◌∷◌, flat_map, map, Option, None, Some, Ok, Err, Result, IfOk, Ordering, IsPermutation, refl, sym, ap, subst, ◌∙◌}
use Rattle.std.proofs.lemmas.List.{append-nil}
use Rattle.std.proofs.lemmas.List.Sorted.{IsPermutation-append, IsPermutation-middle, IsPermutation-refl, IsPermutation-sym, IsPermutation-trans}
use Rattle.std.proofs.lemmas.Option.{same_Some}
use Rattle.std.specs.Cmp.{IsTotalOrder}
use Rattle.std.specs.FinMap.{FinMap, IsAntisymmetric, empty, entries, get, get-empty, insert, same_map}
use Rattle.std.specs.FinSet as set
use Rattle.sqlite_trees.proofs.ListLemmas.{IsPermutation-flat_map, IsPermutation-same, flat_map-map, flat_map-one}
use Rattle.sqlite_value.specs.Order.{Row}
use Rattle.agv_store_rows.specs.ValueEncodings.{if_some}
use Rattle.agv_store_read.specs.ReadTables.{Reads, if_free, read_members, read_rows}
use Rattle.agv_store_rows.specs.Rows.{marked, rows_for, rows_in}
use Rattle.agv_store_read.specs.declared.open_fault.OpenFault.{OpenFault}
use Rattle.agv_store_rows.proofs.KeyedRows.{entry_rows}
use Rattle.agv_store_rows.proofs.Members.{get-marked, mark, marked-insert, same_marked}
use Rattle.agv_store_read.proofs.TableReading.{added, no_entries, reads_all}

module _ {K X : Type 0} {R : K → K → Ordering} (total : IsTotalOrder R) (apart : IsAntisymmetric R) (rowed : K → X → List Row) (told : Row → Option (K × X)) (written : (row : Row) (e : K × X) → told row ≡ Some e → rowed e.0 e.1 ≡ row ∷ []) where
  rows_back : (table m : FinMap R X) (rows : List Row) → read_rows told table rows ≡ Some m → IsPermutation (entry_rows rowed m) (entry_rows rowed table ++ rows)
  rows_back table m [] is = IsPermutation-same _ _ (ap (entry_rows rowed) (sym (same_Some table m is)) ∙ sym (append-nil _))
  rows_back table m (row ∷ rows) is =
      elim (told row) as (λ o. told row ≡ o → if_some o (λ e. if_free (get table e.0) (read_rows told (insert table e.0 e.1) rows)) ≡ Some m → IsPermutation (entry_rows rowed m) (entry_rows rowed table ++ row ∷ rows)) [
        | None ↦ λ _ found. absurd (cc found)
        | Some e ↦ λ from. elim (get table e.0) as (λ t. get table e.0 ≡ t → if_free t (read_rows told (insert table e.0 e.1) rows) ≡ Some m → IsPermutation (entry_rows rowed m) (entry_rows rowed table ++ row ∷ rows)) [
          | Some y ↦ λ _ found. absurd (cc found)
          | None ↦ λ free found.
              let one = IsPermutation-flat_map (λ (f : K × X). rowed f.0 f.1) _ _ (added total apart table e.0 e.1 free) in
              let shown : IsPermutation (row ∷ entry_rows rowed table) (entry_rows rowed (insert table e.0 e.1)) = subst (λ l. IsPermutation (l ++ entry_rows rowed table) (entry_rows rowed (insert table e.0 e.1))) (written row e from) one in
              IsPermutation-trans _ _ _ (rows_back (insert table e.0 e.1) m rows found)
              (IsPermutation-sym _ _ (IsPermutation-trans _ _ _ (IsPermutation-middle (entry_rows rowed table) row rows) (IsPermutation-append _ _ rows rows shown (IsPermutation-refl rows))))
        ] refl
      ] refl is

  -- rows from which a table is read are those of its entries
  pub rows_are : (m : FinMap R X) (rows : List Row) → read_rows told (empty {X = X} {R = R}) rows ≡ Some m → IsPermutation rows (entry_rows rowed m)
  rows_are m rows is =
      IsPermutation-sym _ _ (subst (λ l. IsPermutation (entry_rows rowed m) (flat_map (λ (f : K × X). rowed f.0 f.1) l ++ rows)) (no_entries {X = X} R) (rows_back empty m rows is))

-- rows that are one each
one_each : {K X : Type 0} {R : K → K → Ordering} (columns : K → X → Row) (m : FinMap R X) → entry_rows (λ k x. columns k x ∷ []) m ≡ rows_in columns m
one_each {K} {X} columns m = sym (flat_map-map (λ y. y ∷ []) (λ (e : K × X). columns e.0 e.1) (entries m)) ∙ flat_map-one (map (λ (e : K × X). columns e.0 e.1) (entries m))

module _ {K X : Type 0} {R : K → K → Ordering} (total : IsTotalOrder R) (apart : IsAntisymmetric R) where
  -- of a reading that ends well
  pub shows_rows : (rowed : K → X → List Row) (told : Row → Option (K × X)) → ((row : Row) (e : K × X) → told row ≡ Some e → rowed e.0 e.1 ≡ row ∷ []) → (asked rows : List Row) (r : Result (FinMap R X) OpenFault)
      → Reads r (read_rows told (empty {X = X} {R = R}) rows) → IsPermutation asked rows → IfOk r (λ m. IsPermutation asked (entry_rows rowed m))
  shows_rows rowed told written asked rows (Ok m) read shown = IsPermutation-trans _ _ _ shown (rows_are total apart rowed told written m rows read)
  shows_rows rowed told written asked rows (Err f) read shown = tt

  pub shows_table : (columns : K → X → Row) (told : Row → Option (K × X)) → ((row : Row) (k : K) (x : X) → told row ≡ Some (k, x) → row ≡ columns k x) → (asked rows : List Row) (r : Result (FinMap R X) OpenFault)
      → Reads r (read_rows told (empty {X = X} {R = R}) rows) → IsPermutation asked rows → IfOk r (λ m. IsPermutation asked (rows_in columns m))
  shows_table columns told written asked rows (Ok m) read shown =
      subst (IsPermutation asked) (one_each columns m) (shows_rows (λ k x. columns k x ∷ []) told (λ row e is. ap (λ (y : Row). y ∷ []) (sym (written row e.0 e.1 is))) asked rows (Ok m) read shown)
  shows_table columns told written asked rows (Err f) read shown = tt

-- ---- sets

-- a member, as an entry with nothing at it
abbrev pub entry_if : {K : Type 0} → Option K → Option (K × Unit {0})
entry_if None = None
entry_if (Some key) = Some (key, tt)

abbrev pub as_entry : {K : Type 0} → (Row → Option K) → Row → Option (K × Unit {0})
as_entry told row = entry_if (told row)

abbrev marked_if : {K : Type 0} {R : K → K → Ordering} → Option (set.FinSet R) → Option (FinMap R (Unit {0}))
marked_if None = None
marked_if (Some s) = Some (marked s)

module _ {K : Type 0} {R : K → K → Ordering} (total : IsTotalOrder R) (apart : IsAntisymmetric R) where
  none_marked : marked (set.empty {R = R}) ≡ empty {X = Unit {0}} {R = R}
  none_marked = same_map total apart _ _ (λ q. get-marked total set.empty q ∙ ap mark (set.contains-empty R q) ∙ sym (get-empty {X = Unit {0}} R q))

  taken : (b : Bool) (o : Option (set.FinSet R)) → marked_if (cond b None o) ≡ if_free (mark b) (marked_if o)
  taken true o = refl
  taken false o = refl

  members_read : (told : Row → Option K) (s : set.FinSet R) (rows : List Row) → marked_if (read_members told s rows) ≡ read_rows (as_entry told) (marked s) rows
  members_read told s [] = refl
  members_read told s (row ∷ rows) =
      elim (told row) as (λ (o : Option K). marked_if (if_some o (λ key. cond (set.contains s key) None (read_members told (set.insert s key) rows))) ≡ if_some (entry_if o) (λ (e : K × Unit {0}). if_free (get (marked s) e.0) (read_rows (as_entry told) (insert (marked s) e.0 e.1) rows))) [
        | None ↦ refl
        | Some key ↦
            taken (set.contains s key) (read_members told (set.insert s key) rows)
            ∙ ap (if_free (mark (set.contains s key))) (members_read told (set.insert s key) rows ∙ ap (λ (t : FinMap R (Unit {0})). read_rows (as_entry told) t rows) (sym (marked-insert total apart s key)))
            ∙ ap (λ (o : Option (Unit {0})). if_free o (read_rows (as_entry told) (insert (marked s) key tt) rows)) (sym (get-marked total s key))
      ]

  members_of_none : (told : Row → Option K) (rows : List Row) → marked_if (read_members told (set.empty {R = R}) rows) ≡ read_rows (as_entry told) (empty {X = Unit {0}} {R = R}) rows
  members_of_none told rows = members_read told set.empty rows ∙ ap (λ (t : FinMap R (Unit {0})). read_rows (as_entry told) t rows) none_marked

  is_member : (b : Bool) (x : Unit {0}) → mark b ≡ Some x → b ≡ true
  is_member true x is = refl
  is_member false x is = absurd (cc is)

  unmarked : (o : Option (set.FinSet R)) (s : set.FinSet R) → marked_if o ≡ Some (marked s) → o ≡ Some s
  unmarked None s is = absurd (cc is)
  unmarked (Some t) s is = ap Some (same_marked total apart t s (same_Some (marked t) (marked s) is))

  -- all rows of a set, in any order, give it
  pub reads_members : (columns : K → Row) (told : Row → Option K) (s : set.FinSet R) → ((k : K) → set.contains s k ≡ true → told (columns k) ≡ Some k) → (rows : List Row) → IsPermutation (rows_for columns s) rows → read_members told (set.empty {R = R}) rows ≡ Some s
  reads_members columns told s kept rows shown =
      unmarked (read_members told set.empty rows) s
      (members_of_none told rows
      ∙ reads_all total apart (marked s) (λ key nothing. columns key) (as_entry told) (λ k x at. ap entry_if (kept k (is_member (set.contains s k) x (sym (get-marked total s k) ∙ at)))) rows shown)

  entry_written : (columns : K → Row) (told : Row → Option K) → ((row : Row) (k : K) → told row ≡ Some k → row ≡ columns k) → (row : Row) (k : K) (x : Unit {0}) → as_entry told row ≡ Some (k, x) → row ≡ columns k
  entry_written columns told written row k x is =
      elim (told row) as (λ (o : Option K). told row ≡ o → entry_if o ≡ Some (k, x) → row ≡ columns k) [
        | None ↦ λ _ found. absurd (cc found)
        | Some key ↦ λ from found. written row key from ∙ ap columns (ap (λ (e : K × Unit {0}). e.0) (same_Some (key, tt) (k, x) found))
      ] refl is

  -- of a reading that ends well
  pub shows_members : (columns : K → Row) (told : Row → Option K) → ((row : Row) (k : K) → told row ≡ Some k → row ≡ columns k) → (asked rows : List Row) (r : Result (set.FinSet R) OpenFault)
      → Reads r (read_members told (set.empty {R = R}) rows) → IsPermutation asked rows → IfOk r (λ s. IsPermutation asked (rows_for columns s))
  shows_members columns told written asked rows (Ok s) read shown =
      shows_table total apart (λ key nothing. columns key) (as_entry told) (entry_written columns told written) asked rows (Ok (marked s)) (sym (members_of_none told rows) ∙ ap marked_if read) shown
  shows_members columns told written asked rows (Err f) read shown = tt
