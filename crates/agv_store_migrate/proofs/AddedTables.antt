-- Where three tables are made beside the eleven of the first schema, the fourteen stand, and the eleven have the rows that they had.
use Rattle.std.proofs.Common.{◌≡◌, ◌∙◌, ◌^◌, ◌++◌, ℕ, true, false, nat_le, List, [], ◌∷◌, fold, append_assoc, append-nil, Some, slice_get, inl, inr, refl, sym, ap, subst}
use Rattle.std.specs.List.{AllByRecursion, AllZip, position_from}
use Rattle.std.proofs.lemmas.Bool.{cases_Bool}
use Rattle.sqlite_value.specs.Order.{Row}
use Rattle.sqlite_schema.specs.declared.schema.Schema.{Schema}
use Rattle.sqlite_schema.specs.declared.schema.Table.{Table}
use Rattle.sqlite_schema.specs.Names.{same_name}
use Rattle.sqlite_rules.specs.Lists.{Has}
use Rattle.sqlite_rules.proofs.ListLemmas.{all_has}
use Rattle.sqlite_catalog.specs.Change.{created, next_tree}
use Rattle.sqlite.specs.Does.{lacks_sequence}
use Rattle.sqlite.specs.Effect.{Database, IsDatabase}
use Rattle.agv_store_schema.specs.declared.table_name.TableName.{TableName}
use Rattle.agv_store_schema.specs.declared.table_name.TableName.TheVariants as the
use Rattle.agv_store_migrate.specs.FirstRows.{FirstHolds, IsFirstDesk, first_names, is_first}
use Rattle.agv_store_migrate.specs.Moved.{added_tables}
use Rattle.agv_store_schema.specs.DeskRows.{HaveRows, Holds, IsDesk, Placing, SameKeys, TableHas, TableKeys, TableStands, indexed_by, is_unreferred, row_shown, rowid_column_of, table_for, table_in, table_written, width_of}
use Rattle.agv_store_create.specs.DeskSchema.{sequence_table, with_new_table}
use Rattle.agv_store_create.specs.DeskTables.{HasTable}
use Rattle.agv_store_schema.proofs.DeskPlaces.{as_made, is_among, own_keys, same_own_keys}
use Rattle.agv_store_create.proofs.DeskStands.{AllowsTable, have_rows, low_tree}
use Rattle.agv_store_create.proofs.NamesKept.{position_kept}
use Rattle.agv_store_create.proofs.TablesKept.{got_kept, has_got}
use Rattle.agv_store_create.proofs.TablesMade.{HaveTables}

-- ---- a schema that grows

-- the tables of the one come first in the other
pub record Extends (s t : Schema) : Type 0 where
  pub more : List Table
  pub is : t.tables ≡ s.tables ++ more

extends_then : (a b c : Schema) → Extends a b → Extends b c → Extends a c
extends_then a b c p q = record { more = p.more ++ q.more; is = q.is ∙ ap (λ ts. ts ++ q.more) p.is ∙ append_assoc a.tables p.more q.more }

created_extends : (s : Schema) (t : Table) → Extends s (created s t)
created_extends s t = record { more = record t { tree = next_tree s } ∷ []; is = refl }

new_extends : (s : Schema) (t : Table) → Extends s (with_new_table s t)
new_extends s t = elim (cases_Bool (lacks_sequence (created s t))) [
  | inl lacks ↦ rw lacks (extends_then s (created s t) (created (created s t) sequence_table) (created_extends s t) (created_extends (created s t) sequence_table))
  | inr has ↦ rw has (created_extends s t)
]

pub all_extend : (s : Schema) (tables : List Table) → Extends s (fold with_new_table s tables)
all_extend s [] = record { more = []; is = sym (append-nil s.tables) }
all_extend s (t ∷ tables) = extends_then s (with_new_table s t) (fold with_new_table s (t ∷ tables)) (new_extends s t) (all_extend (with_new_table s t) tables)

-- a table that stands stands in the longer one, in its tree
stands_still : (desk later : Placing) (name : TableName) → TableStands desk name → Extends desk.schema later.schema → later.tree name ≡ desk.tree name → later.keys name ≡ desk.keys name
    → is_unreferred (table_for name).name later.schema.tables ≡ true → TableStands later name
stands_still desk later name s longer tree keys unreferred = record {
  at = s.at;
  named = subst (λ (ts : List Table). position_from (λ (u : Table). same_name u.name (table_for name).name) 0 ts ≡ Some s.at) (sym longer.is)
      (position_kept (λ (u : Table). same_name u.name (table_for name).name) 0 s.at desk.schema.tables longer.more s.named);
  there = subst (λ ts. slice_get ts s.at ≡ Some (table_in later name)) (sym longer.is)
      (got_kept desk.schema.tables longer.more s.at (table_in later name) (s.there ∙ (λ i. Some (table_written name (sym tree i) (sym keys i)))));
  same_keys = subst (λ (ks : TableKeys). SameKeys ks.indexed (indexed_by (rowid_column_of name ks) (table_for name).uniques)) (sym keys) s.same_keys;
  low = subst (λ n. nat_le (2 ^ 31) n ≡ false) (sym tree) s.low;
  unreferred = unreferred;
}

-- a table that was made stands, where its tree is that
stands_new : (db : Database) → IsDatabase db → (tree : TableName → ℕ) (keys : TableName → TableKeys) (name : TableName) (rows : List Row) (h : HasTable db (table_for name) rows) → tree name ≡ h.tree → keys name ≡ own_keys name
    → is_unreferred (table_for name).name db.schema.tables ≡ true → TableStands (record { schema = db.schema; tree = tree; keys = keys }) name
stands_new db listed tree keys name rows h same own unreferred =
    let there : slice_get db.schema.tables h.at ≡ Some (record (table_for name) { tree = tree name }) = h.there ∙ ap (λ n. Some (record (table_for name) { tree = n })) (sym same) in
    record {
      at = h.at;
      named = h.named;
      there = there ∙ ap Some (as_made name (tree name)) ∙ ap (λ (ks : TableKeys). Some (table_written name (tree name) ks)) (sym own);
      same_keys = subst (λ (ks : TableKeys). SameKeys ks.indexed (indexed_by (rowid_column_of name ks) (table_for name).uniques)) (sym own) (same_own_keys name);
      low = low_tree db listed _ (has_got db.schema.tables h.at _ there);
      unreferred = unreferred;
    }

-- ---- the fourteen

-- the trees of the eleven, and those of the three
abbrev pub trees_with : (TableName → ℕ) → ℕ → ℕ → ℕ → TableName → ℕ
trees_with tree capacity journey act the.Capacity = capacity
trees_with tree capacity journey act the.Journey = journey
trees_with tree capacity journey act the.Act = act
trees_with tree capacity journey act name = tree name

tree_stays : (tree : TableName → ℕ) (capacity journey act : ℕ) (name : TableName) → is_first name ≡ true → trees_with tree capacity journey act name ≡ tree name
tree_stays tree capacity journey act the.Capacity is = absurd (cc is)
tree_stays tree capacity journey act the.Journey is = absurd (cc is)
tree_stays tree capacity journey act the.Act is = absurd (cc is)
tree_stays tree capacity journey act _ is = refl

-- the keys of the eleven, and those of the three as they are made
abbrev second_keys : (TableName → TableKeys) → TableName → TableKeys
second_keys keys the.Capacity = own_keys the.Capacity
second_keys keys the.Journey = own_keys the.Journey
second_keys keys the.Act = own_keys the.Act
second_keys keys name = keys name

keys_stay : (keys : TableName → TableKeys) (name : TableName) → is_first name ≡ true → second_keys keys name ≡ keys name
keys_stay keys the.Capacity is = absurd (cc is)
keys_stay keys the.Journey is = absurd (cc is)
keys_stay keys the.Act is = absurd (cc is)
keys_stay keys _ is = refl

zipped_more : {A B : Type 0} (R : A → B → Type 0) (xs us : List A) (ys vs : List B) → AllZip R xs ys → AllZip R us vs → AllZip R (xs ++ us) (ys ++ vs)
zipped_more R [] us [] vs p q = q
zipped_more R [] us (y ∷ ys) vs p q = absurd p
zipped_more R (x ∷ xs) us [] vs p q = absurd p
zipped_more R (x ∷ xs) us (y ∷ ys) vs p q = (p.0, zipped_more R xs us ys vs p.1 q)

-- the eleven stood in a schema without the three, which were made in it
pub record AreAdded (first : Placing) (old mid : Database) : Type 0 where
  pub is : IsFirstDesk first
  pub has : old.schema ≡ first.schema
  pub made : HaveTables old mid added_tables
  pub allowed : (name : TableName) → AllowsTable (table_for name).name mid.schema.tables

module _ (first : Placing) (old mid : Database) (added : AreAdded first old mid) where
  abbrev pub second : Placing
  second = record {
    schema = mid.schema;
    tree = trees_with first.tree added.made.stand.0.tree added.made.stand.1.0.tree added.made.stand.1.1.0.tree;
    keys = second_keys first.keys;
  }

  pub tree_is : (name : TableName) → is_first name ≡ true → second.tree name ≡ first.tree name
  tree_is = tree_stays first.tree added.made.stand.0.tree added.made.stand.1.0.tree added.made.stand.1.1.0.tree

  keys_are : (name : TableName) → is_first name ≡ true → second.keys name ≡ first.keys name
  keys_are = keys_stay first.keys

  longer : Extends first.schema mid.schema
  longer = subst (λ s. Extends s mid.schema) added.has (subst (Extends old.schema) (sym added.made.schema_is) (all_extend old.schema added_tables))

  first_stands : (name : TableName) → is_first name ≡ true → TableStands second name
  first_stands name is = stands_still first second name (added.is.stands name is) longer (tree_is name is) (keys_are name is) (added.allowed name).unreferred

  second_stands : (name : TableName) → TableStands second name
  second_stands the.Meta = first_stands the.Meta refl
  second_stands the.Node = first_stands the.Node refl
  second_stands the.Edge = first_stands the.Edge refl
  second_stands the.Station = first_stands the.Station refl
  second_stands the.Vehicle = first_stands the.Vehicle refl
  second_stands the.Trip = first_stands the.Trip refl
  second_stands the.Leg = first_stands the.Leg refl
  second_stands the.Load = first_stands the.Load refl
  second_stands the.Job = first_stands the.Job refl
  second_stands the.Hold = first_stands the.Hold refl
  second_stands the.Used = first_stands the.Used refl
  second_stands the.Capacity = stands_new mid added.made.listed second.tree second.keys the.Capacity [] added.made.stand.0 refl refl (added.allowed the.Capacity).unreferred
  second_stands the.Journey = stands_new mid added.made.listed second.tree second.keys the.Journey [] added.made.stand.1.0 refl refl (added.allowed the.Journey).unreferred
  second_stands the.Act = stands_new mid added.made.listed second.tree second.keys the.Act [] added.made.stand.1.1.0 refl refl (added.allowed the.Act).unreferred

  pub is_second : IsDesk second
  is_second = record { stands = second_stands; apart = (added.allowed the.Meta).apart }

  -- a table that was there has the rows that it had
  pub rows_stay : (t : Table) → Has old.schema.tables t → mid.trees t.tree ≡ old.trees t.tree
  rows_stay t has = all_has (λ (u : Table). mid.trees u.tree ≡ old.trees u.tree) old.schema.tables t added.made.grows.kept has

  -- the table of that name as it stood
  abbrev first_table : (name : TableName) → is_first name ≡ true → Table
  first_table name is = table_in first name

  first_among : (name : TableName) (is : is_first name ≡ true) → Has old.schema.tables (first_table name is)
  first_among name is =
      let s = added.is.stands name is in
      subst (λ (it : Schema). Has it.tables (first_table name is)) (sym added.has) (is_among first.schema.tables s.at (first_table name is) s.there)

  trees_stay : (name : TableName) → is_first name ≡ true → mid.trees (second.tree name) ≡ old.trees (first.tree name)
  trees_stay name is = ap mid.trees (tree_is name is) ∙ rows_stay (first_table name is) (first_among name is)

  first_rows_stay : (names : List TableName) → AllByRecursion (λ name. is_first name ≡ true) names → (lists : List (List Row))
      → AllZip (TableHas first old.trees) names lists → AllZip (TableHas second mid.trees) names lists
  first_rows_stay [] are [] h = h
  first_rows_stay [] are (rows ∷ lists) h = h
  first_rows_stay (name ∷ names) are [] h = h
  first_rows_stay (name ∷ names) are (rows ∷ lists) h =
      (subst (λ (it : TableKeys × List Row). HaveRows (row_shown (rowid_column_of name it.0) (width_of name)) it.1 rows) (λ i. (sym (keys_are name are.0) i, sym (trees_stay name are.0) i)) h.0, first_rows_stay names are.1 lists h.1)

  -- the fourteen have the rows of the eleven, and the three have none
  pub second_holds : (lists : List (List Row)) → FirstHolds first old lists → Holds second mid (lists ++ [] ∷ [] ∷ [] ∷ [])
  second_holds lists h = record {
    schema_is = refl;
    rows = zipped_more (TableHas second mid.trees) first_names (the.Capacity ∷ the.Journey ∷ the.Act ∷ []) lists ([] ∷ [] ∷ [] ∷ [])
        (first_rows_stay first_names (refl, (refl, (refl, (refl, (refl, (refl, (refl, (refl, (refl, (refl, (refl, tt))))))))))) lists h.rows) (
          have_rows 3 (mid.trees (second.tree the.Capacity)) [] tt added.made.stand.0.rows_are,
          (
            have_rows 9 (mid.trees (second.tree the.Journey)) [] tt added.made.stand.1.0.rows_are,
            (have_rows 6 (mid.trees (second.tree the.Act)) [] tt added.made.stand.1.1.0.rows_are, tt),
          ),
        );
  }
