-- Where the desk's tables stand, each has a tree of its own, and a change of one leaves the others.
use Rattle.std.proofs.Common.{◌≡◌, ◌≢◌, ◌==◌, ◌∙◌, inl, inr, ℕ, zero, suc, Bool, true, false, not, ◌&&◌, List, [], ◌∷◌, find, Option, None, Some, slice_get, refl, sym, ap, subst, bytes_eq}
use Rattle.std.specs.List.{AllZip, AllByRecursion}
use Rattle.std.proofs.lemmas.Bool.{cases_Bool, and_parts, not-true, eqb-true, eqb-false}
use Rattle.std.proofs.lemmas.Slice.Eq.{bytes_eq-Decides}
use Rattle.sqlite_value.specs.Order.{Row}
use Rattle.sqlite_trees.specs.Tree.{Trees, IsAscending}
use Rattle.sqlite_schema.specs.declared.schema.Table.{Table}
use Rattle.sqlite_rules.specs.Lists.{Has}
use Rattle.sqlite_rules.proofs.ListLemmas.{all_has}
use Rattle.agv_store_schema.specs.DeskRows.{columns_in, indexed_by, key_by, row_shown, rowid_column_of, shown_in, table_for, table_names, place_of, width_of, HasKey, Placing, RowidColumn, SameColumns, SameKeys, TableHas, TableKeys, table_in, table_written, TableStands, IsDesk, StandApart, on_table, table_at}
use Rattle.agv_store_schema.specs.declared.table_name.TableName.{TableName}
use Rattle.agv_store_schema.specs.declared.table_name.TableName.TheVariants as the
use Rattle.agv_store_schema.proofs.OneTable.{IsIn}

-- ---- tables of a schema

abbrev pub Apart : List Table → Type 0
Apart = IsAscending (λ (s t : Table). s.tree ≢ t.tree)

pub is_among : {X : Type 0} (xs : List X) (at : ℕ) (x : X) → slice_get xs at ≡ Some x → Has xs x
is_among [] at x h = absurd (cc)
is_among (y ∷ xs) zero x h = let same : x ≡ y = cc in inl same
is_among (y ∷ xs) (suc at) x h = inr (is_among xs at x h)

-- tables of one tree are the same table
pub one_of_a_tree : (tables : List Table) → Apart tables → (a b : Table) → Has tables a → Has tables b → a.tree ≡ b.tree → a ≡ b
one_of_a_tree [] apart a b h k same = absurd h
one_of_a_tree (t ∷ tables) apart a b (inl h) (inl k) same = h ∙ sym k
one_of_a_tree (t ∷ tables) apart a b (inl h) (inr k) same = absurd (all_has _ tables b apart.0 k (ap (λ (u : Table). u.tree) (sym h) ∙ same))
one_of_a_tree (t ∷ tables) apart a b (inr h) (inl k) same = absurd (all_has _ tables a apart.0 h (ap (λ (u : Table). u.tree) (sym k) ∙ sym same))
one_of_a_tree (t ∷ tables) apart a b (inr h) (inr k) same = one_of_a_tree tables apart.1 a b h k same

differs : (a b : ℕ) → a ≢ b → (a == b) ≡ false
differs a b h = elim (cases_Bool (a == b)) [ inl e ↦ absurd (h (eqb-true a b e)) | inr e ↦ e ]

itself : (a : ℕ) → (a == a) ≡ true
itself a = elim (cases_Bool (a == a)) [ inl e ↦ e | inr e ↦ absurd (eqb-false a a e refl) ]

found_by_tree : (tables : List Table) → Apart tables → (at : ℕ) (t : Table) → slice_get tables at ≡ Some t → find (λ (u : Table). u.tree == t.tree) tables ≡ Some t
found_by_tree [] apart at t h = absurd (cc)
found_by_tree (x ∷ tables) apart zero t h =
    let same : x ≡ t = cc in
    let tie : (x.tree == t.tree) ≡ true = ap (λ (u : Table). u.tree == t.tree) same ∙ itself t.tree in
    rw tie h
found_by_tree (x ∷ tables) apart (suc at) t h =
    let other : (x.tree == t.tree) ≡ false = differs x.tree t.tree (all_has _ tables t apart.0 (is_among tables at t h)) in
    rw other (found_by_tree tables apart.1 at t h)

-- ---- their keys

-- columns and keys are the same as themselves
all_among : {X : Type 0} (P : X → Type 0) (xs : List X) → ((x : X) → Has xs x → P x) → AllByRecursion P xs
all_among P [] among = tt
all_among P (x ∷ xs) among = (among x (inl refl), all_among P xs (λ y there. among y (inr there)))

same_columns : (key : List ℕ) → SameColumns key key
same_columns key = let all = all_among (λ place. Has key place) key (λ place there. there) in record { one = all; other = all }

own_key : (keys : List (List ℕ)) (key : List ℕ) → Has keys key → HasKey keys key
own_key [] key there = there
own_key (k ∷ keys) key (inl same) = inl (subst (SameColumns key) same (same_columns key))
own_key (k ∷ keys) key (inr later) = inr (own_key keys key later)

same_as_themselves : (keys : List (List ℕ)) → SameKeys keys keys
same_as_themselves keys = let all = all_among (HasKey keys) keys (own_key keys) in record { one = all; other = all }

-- the keys of the table as the desk makes it
abbrev pub own_keys : TableName → TableKeys
own_keys name = record { primary = (table_for name).primary; indexed = (table_for name).uniques; rowid_column = None }

pub as_made : (name : TableName) (tree : ℕ) → record (table_for name) { tree = tree } ≡ table_written name tree (own_keys name)
as_made the.Meta tree = refl
as_made _ tree = refl

pub own_no_rowid_column : (name : TableName) → rowid_column_of name (own_keys name) ≡ None
own_no_rowid_column the.Meta = refl
own_no_rowid_column _ = refl

pub same_own_keys : (name : TableName) → SameKeys (own_keys name).indexed (indexed_by (rowid_column_of name (own_keys name)) (table_for name).uniques)
same_own_keys name = subst (λ (r : Option RowidColumn). SameKeys (table_for name).uniques (indexed_by r (table_for name).uniques)) (sym (own_no_rowid_column name)) (same_as_themselves (table_for name).uniques)

-- ---- the desk's tables

-- the first column of the table is not the rowid: so it is for all but `meta`
abbrev pub HasNoRowidColumn : Placing → TableName → Type 0
HasNoRowidColumn desk name = rowid_column_of name (desk.keys name) ≡ None

-- then its rows are its columns
pub shown_as_kept : (desk : Placing) (name : TableName) → HasNoRowidColumn desk name → shown_in desk name ≡ columns_in (width_of name)
shown_as_kept desk name none = ap (λ (r : Option RowidColumn). row_shown r (width_of name)) none

-- a row is shown as the table's key says
pub shown_by_key : (r q : Option RowidColumn) (width : ℕ) → key_by r ≡ key_by q → row_shown r width ≡ row_shown q width
shown_by_key None None width same = refl
shown_by_key None (Some b) width same = absurd (cc same)
shown_by_key (Some a) None width same = absurd (cc same)
shown_by_key (Some a) (Some b) width same = refl

pub is_in_alone : (desk : Placing) (name : TableName) (s : TableStands desk name) → Apart desk.schema.tables → IsIn desk.schema (table_for name).name (table_in desk name) s.at
is_in_alone desk name s apart = record { named = s.named; there = s.there; low = s.low; by_tree = found_by_tree desk.schema.tables apart s.at (table_in desk name) s.there }

pub is_in : (desk : Placing) (is : IsDesk desk) (name : TableName) → IsIn desk.schema (table_for name).name (table_in desk name) (is.stands name).at
is_in desk is name = is_in_alone desk name (is.stands name) is.apart

-- each of them stands apart from the others
pub one_stands : (desk : Placing) (is : IsDesk desk) (name : TableName) → StandApart desk (name ∷ [])
one_stands desk is name = record { stands = (is.stands name, tt); apart = is.apart }

pub all_stand : (desk : Placing) (is : IsDesk desk) → StandApart desk table_names
all_stand desk is = record { stands = each table_names; apart = is.apart }
  where
    each : (names : List TableName) → AllByRecursion (TableStands desk) names
    each [] = tt
    each (name ∷ names) = (is.stands name, each names)

abbrev is_same : TableName → TableName → Bool
is_same a b = bytes_eq (table_for a).name (table_for b).name

same_text : (a b : List ℕ) → a ≡ b → bytes_eq a b ≡ true
same_text a b e = (bytes_eq-Decides a b).1 e

same_value : {X : Type 0} {x y : X} → Some x ≡ Some y → x ≡ y
same_value e = cc

trees_differ : (desk : Placing) → IsDesk desk → (a b : TableName) → is_same a b ≡ false → desk.tree a ≢ desk.tree b
trees_differ desk is a b other same =
    let here = is_among desk.schema.tables (is.stands a).at (table_in desk a) (is.stands a).there in
    let there = is_among desk.schema.tables (is.stands b).at (table_in desk b) (is.stands b).there in
    let one : table_in desk a ≡ table_in desk b = one_of_a_tree desk.schema.tables is.apart (table_in desk a) (table_in desk b) here there same in
    let alike : is_same a b ≡ true = same_text (table_for a).name (table_for b).name (ap (λ (t : Table). t.name) one) in cc

-- ---- the lists of their rows

abbrev no_other : TableName → List TableName → Bool
no_other name [] = true
no_other name (n ∷ names) = not (is_same n name) && no_other name names

abbrev once_at : TableName → ℕ → List TableName → Bool
once_at name at [] = false
once_at name zero (n ∷ names) = is_same n name && no_other name names
once_at name (suc at) (n ∷ names) = not (is_same n name) && once_at name at names

once : (name : TableName) → once_at name (place_of name) table_names ≡ true
once the.Meta = refl
once _ = refl

in_place : (name : TableName) → slice_get table_names (place_of name) ≡ Some name
in_place the.Meta = refl
in_place _ = refl

abbrev AreRows : Placing → Trees → List TableName → List (List Row) → Type 0
AreRows desk db = AllZip (TableHas desk db)

module _ (desk : Placing) (db next : Trees) (name : TableName) (others : (n : TableName) → is_same n name ≡ false → next (desk.tree n) ≡ db (desk.tree n)) where
  others_stay : (names : List TableName) → no_other name names ≡ true → (lists : List (List Row)) → AreRows desk db names lists → AreRows desk next names lists
  others_stay [] none [] h = h
  others_stay [] none (l ∷ lists) h = h
  others_stay (n ∷ names) none [] h = h
  others_stay (n ∷ names) none (l ∷ lists) h =
      let both = and_parts _ _ none in
      (rw (others n (not-true _ both.0)) h.0, others_stay names both.1 lists h.1)

  one_changes : (f : List Row → List Row) → ((rows : List Row) → TableHas desk db name rows → TableHas desk next name (f rows))
      → (at : ℕ) (names : List TableName) → slice_get names at ≡ Some name → once_at name at names ≡ true → (lists : List (List Row)) → AreRows desk db names lists → AreRows desk next names (on_table at f lists)
  one_changes f step at [] there only lists h = absurd (cc)
  one_changes f step zero (n ∷ names) there only [] h = h
  one_changes f step (suc at) (n ∷ names) there only [] h = h
  one_changes f step zero (n ∷ names) there only (l ∷ lists) h =
      let here : n ≡ name = same_value there in
      let both = and_parts (is_same n name) (no_other name names) only in
      (subst (λ (m : TableName). TableHas desk next m (f l)) (sym here) (step l (subst (λ (m : TableName). TableHas desk db m l) here h.0)), others_stay names both.1 lists h.1)
  one_changes f step (suc at) (n ∷ names) there only (l ∷ lists) h =
      let both = and_parts _ _ only in
      (rw (others n (not-true _ both.0)) h.0, one_changes f step at names there both.1 lists h.1)

-- the rows of one of the desk's tables change
pub table_changes : (desk : Placing) → IsDesk desk → (name : TableName) (db next : Trees) (f : List Row → List Row)
    → ((rows : List Row) → TableHas desk db name rows → TableHas desk next name (f rows))
    → AllByRecursion (λ (t : Table). t.tree ≢ desk.tree name → next t.tree ≡ db t.tree) desk.schema.tables
    → (lists : List (List Row)) → AreRows desk db table_names lists → AreRows desk next table_names (on_table (place_of name) f lists)
table_changes desk is name db next f step same lists h =
    one_changes desk db next name
    (λ n other. all_has _ desk.schema.tables (table_in desk n) same (is_among desk.schema.tables (is.stands n).at (table_in desk n) (is.stands n).there) (trees_differ desk is n name other))
    f step (place_of name) table_names (in_place name) (once name) lists h

rows_at : (desk : Placing) (db : Trees) (name : TableName) (at : ℕ) (names : List TableName) (lists : List (List Row)) → slice_get names at ≡ Some name → AreRows desk db names lists → TableHas desk db name (table_at at lists)
rows_at desk db name at [] lists there h = absurd (cc)
rows_at desk db name zero (n ∷ names) [] there h = absurd h
rows_at desk db name (suc at) (n ∷ names) [] there h = absurd h
rows_at desk db name zero (n ∷ names) (l ∷ lists) there h = let here : n ≡ name = cc in subst (λ (m : TableName). TableHas desk db m l) here h.0
rows_at desk db name (suc at) (n ∷ names) (l ∷ lists) there h = rows_at desk db name at names lists there h.1

-- the rows of one of them
pub table_has : (desk : Placing) (name : TableName) (db : Trees) (lists : List (List Row)) → AreRows desk db table_names lists → TableHas desk db name (table_at (place_of name) lists)
table_has desk name db lists h = rows_at desk db name (place_of name) table_names lists (in_place name) h
