-- What the making gives is a desk with its first rows, as the statements see it.
use Rattle.std.proofs.Common.{◌≡◌, ◌≢◌, ◌∙◌, ◌^◌, not, ℕ, zero, suc, true, false, nat_le, List, [], ◌∷◌, map, drop, filter, fold, length, pos, ◌+◌, Option, Some, None, option_map, option_and_then, unwrap_or, slice_get, rules, IsPermutation, inl, inr, refl, sym, ap, subst, arith}
use Rattle.std.specs.List.{AllByRecursion, AllZip, list_all, position_from}
use Rattle.std.proofs.lemmas.Bool.{cases_Bool}
use Rattle.std.proofs.lemmas.List.Folds.{list_all-append}
use Rattle.sqlite_value.specs.Order.{Row}
use Rattle.sqlite_trees.specs.Tree.{Trees, IsAscending}
use Rattle.sqlite_trees.specs.Objects.{catalog_tree}
use Rattle.sqlite_trees.proofs.ListLemmas.{all-permutation}
use Rattle.sqlite_schema.specs.declared.schema.Reference.{Reference}
use Rattle.sqlite_schema.specs.declared.schema.Schema.{Schema}
use Rattle.sqlite_schema.specs.declared.schema.Table.{Table}
use Rattle.sqlite_schema.specs.Names.{same_name, table_named}
use Rattle.sqlite_rules.specs.Lists.{Has}
use Rattle.sqlite_resolve.specs.Compile.{table_defined_by}
use Rattle.sqlite_catalog.specs.Change.{is_used, created, indexed}
use Rattle.sqlite_catalog.specs.Listing.{IsTableRow, is_table_row}
use Rattle.sqlite_catalog.proofs.LayoutLemmas.{zipped_left}
use Rattle.sqlite_catalog.proofs.ListFacts.{ascending_push}
use Rattle.sqlite_catalog.proofs.StepLemmas.{table_below}
use Rattle.sqlite.specs.Does.{lacks_sequence}
use Rattle.sqlite.specs.Effect.{Database, IsDatabase}
use Rattle.agv_store_schema.specs.declared.table_name.TableName.{TableName}
use Rattle.agv_store_schema.specs.declared.table_name.TableName.TheVariants as the
use Rattle.agv_store_schema.specs.Schema.{desk_tables, desk_indexes, PlainIndex}
use Rattle.agv_store_create.specs.DeskSchema.{sequence_table, with_sequence, with_new_table, with_new_index, index_on, with_desk}
use Rattle.agv_store_schema.specs.DeskRows.{Placing, RowidColumn, TableHas, TableStands, table_for, place_of, row_shown, width_of, table_at, is_unreferred, first_columns, columns_in, HaveRows}
use Rattle.agv_store_create.specs.DeskTables.{HasTable, HasDesk, first_rows}
use Rattle.agv_store_create.specs.DeskTables.{HasRows}
use Rattle.agv_store_create.specs.NewDesk.{StandsNew, MadeDesksStand, TreesTellTables}
use Rattle.agv_store_schema.proofs.DeskPlaces.{as_made, own_keys, own_no_rowid_column, same_own_keys}
use Rattle.agv_store_schema.proofs.KeyedEntries.{shaped_are_keyed}
use Rattle.agv_store_create.proofs.TablesKept.{has_got}

-- ---- the tables of a schema that grows

-- of these tables none refers to a name, and no two have one tree
pub record AllowsTable (name : List ℕ) (tables : List Table) : Type 0 where
  pub unreferred : is_unreferred name tables ≡ true
  pub apart : IsAscending (λ (s t : Table). s.tree ≢ t.tree) tables

module _ (name : List ℕ) where
  abbrev Allows : Schema → Type 0
  Allows s = AllowsTable name s.tables

  created_leaves : (s : Schema) (t : Table) → t.references ≡ [] → Allows s → Allows (created s t)
  created_leaves s t none allows = record {
    unreferred = list_all-append (λ (u : Table). list_all (λ (r : Reference). not (same_name name r.parent)) u.references) s.tables _ ∙ rw (allows.unreferred, none) refl;
    apart = ascending_push (λ (u v : Table). u.tree ≢ v.tree) s.tables _ allows.apart (λ u has same. let low = table_below s u has in omega (arith, low, same));
  }

  sequence_leaves : (s : Schema) → Allows s → Allows (with_sequence s)
  sequence_leaves s allows = elim (cases_Bool (lacks_sequence s)) [ inl lacks ↦ rw lacks (created_leaves s sequence_table refl allows) | inr has ↦ rw has allows ]

  pub tables_leave : (s : Schema) (tables : List Table) → AllByRecursion (λ (t : Table). t.references ≡ []) tables → Allows s → Allows (fold with_new_table s tables)
  tables_leave s [] none allows = allows
  tables_leave s (t ∷ tables) none allows = tables_leave (with_new_table s t) tables none.1 (sequence_leaves (created s t) (created_leaves s t none.0 allows))

  index_leaves : (s : Schema) (index : PlainIndex) → Allows s → Allows (with_new_index s index)
  index_leaves s index allows = elim (cases_Bool (is_used s index.name)) [ inl used ↦ rw used allows | inr free ↦ rw free (found (option_and_then (slice_get s.tables) (table_named s index.table))) ]
    where
      found : (o : Option Table) → Allows (unwrap_or (option_map (λ table. indexed s table (index_on table index)) o) s)
      found None = allows
      found (Some t) = record { unreferred = allows.unreferred; apart = allows.apart }

  indexes_leave : (s : Schema) (indexes : List PlainIndex) → Allows s → Allows (fold with_new_index s indexes)
  indexes_leave s [] allows = allows
  indexes_leave s (index ∷ indexes) allows = indexes_leave (with_new_index s index) indexes (index_leaves s index allows)

  desk_leaves : (s : Schema) → Allows s → Allows (with_desk s)
  desk_leaves s allows = indexes_leave (fold with_new_table s desk_tables) desk_indexes
      (tables_leave s desk_tables (refl, (refl, (refl, (refl, (refl, (refl, (refl, (refl, (refl, (refl, (refl, (refl, (refl, (refl, tt)))))))))))))) allows)

-- ---- a table by its name

-- the number of a tree is below 65536
pub low_tree : (db : Database) → IsDatabase db → (t : Table) → Has db.schema.tables t → nat_le (2 ^ 31) t.tree ≡ false
low_tree db listed t has =
    let r = zipped_left IsTableRow _ db.schema.tables t listed.lists.listed.tables has in
    let below = r.2.described.low in search (rules, below)

module _ (db : Database) (h : HasDesk db first_rows) where
  has_table : (name : TableName) → HasTable db (table_for name) (table_at (place_of name) first_rows)
  has_table the.Meta = h.0
  has_table the.Node = h.1.0
  has_table the.Edge = h.1.1.0
  has_table the.Station = h.1.1.1.0
  has_table the.Vehicle = h.1.1.1.1.0
  has_table the.Trip = h.1.1.1.1.1.0
  has_table the.Leg = h.1.1.1.1.1.1.0
  has_table the.Load = h.1.1.1.1.1.1.1.0
  has_table the.Job = h.1.1.1.1.1.1.1.1.0
  has_table the.Hold = h.1.1.1.1.1.1.1.1.1.0
  has_table the.Used = h.1.1.1.1.1.1.1.1.1.1.0
  has_table the.Capacity = h.1.1.1.1.1.1.1.1.1.1.1.0
  has_table the.Journey = h.1.1.1.1.1.1.1.1.1.1.1.1.0
  has_table the.Act = h.1.1.1.1.1.1.1.1.1.1.1.1.1.0

  abbrev desk : Placing
  desk = record { schema = db.schema; tree = λ name. (has_table name).tree; keys = own_keys }

  stands : IsDatabase db → (name : TableName) → is_unreferred (table_for name).name db.schema.tables ≡ true → TableStands desk name
  stands listed name unreferred =
      let it = has_table name in
      record {
        at = it.at;
        named = it.named;
        there = it.there ∙ ap Some (as_made name it.tree);
        same_keys = same_own_keys name;
        low = low_tree db listed _ (has_got db.schema.tables it.at _ it.there);
        unreferred = unreferred;
      }

-- ---- the rows

-- as many columns as the row has are the row
all_columns : (width : ℕ) (row : Row) → length row ≡ width → first_columns width row ≡ row
all_columns zero [] same = refl
all_columns zero (v ∷ row) same = absurd (omega (arith, same))
all_columns (suc n) [] same = absurd (omega (arith, same))
all_columns (suc n) (v ∷ row) same = ap (λ more. v ∷ more) (all_columns n row (omega (arith, same)))

abbrev AreWide : ℕ → List Row → Type 0
AreWide width = AllByRecursion (λ (row : Row). length row ≡ width)

all_wide : (width : ℕ) (entries : List Row) → AreWide width (map (drop 1) entries) → map (columns_in width) entries ≡ map (drop 1) entries
all_wide width [] wide = refl
all_wide width (e ∷ entries) wide = rw (all_columns width (drop 1 e) wide.0, all_wide width entries wide.1) refl

-- rows of the table's width are what the statements see of it
pub have_rows : (width : ℕ) (entries rows : List Row) → AreWide width rows → HasRows entries rows → HaveRows (columns_in width) entries rows
have_rows width entries rows wide h =
    (shaped_are_keyed entries h.0, subst (IsPermutation rows) (sym (all_wide width entries (all-permutation (λ (row : Row). length row ≡ width) rows (map (drop 1) entries) h.1 wide))) h.1)

pub stands_new : (db : Database) → IsDatabase db → HasDesk db first_rows → ((name : TableName) → AllowsTable (table_for name).name db.schema.tables) → StandsNew db
stands_new db listed h allowed =
    let d = desk db h in
    let have : (name : TableName) → AreWide (width_of name) (table_at (place_of name) first_rows) → TableHas d db.trees name (table_at (place_of name) first_rows) =
    λ name wide. subst (λ (r : Option RowidColumn). HaveRows (row_shown r (width_of name)) (db.trees (d.tree name)) (table_at (place_of name) first_rows)) (sym (own_no_rowid_column name))
    (have_rows (width_of name) (db.trees (d.tree name)) (table_at (place_of name) first_rows) wide (has_table db h name).rows_are) in (
      d,
      record { stands = λ name. stands db h listed name (allowed name).unreferred; apart = (allowed the.Meta).apart },
      record {
        schema_is = refl;
        rows = (have the.Meta (refl, tt), (have the.Node tt, (have the.Edge tt, (have the.Station tt, (have the.Vehicle tt, (have the.Trip tt, (have the.Leg tt, (have the.Load tt, (have the.Job tt, (have the.Hold tt, (have the.Used tt, (have the.Capacity tt, (have the.Journey tt, (have the.Act tt, tt))))))))))))));
      },
    )

-- ---- what an opening finds

-- the row of a table tells the table
row_tells : (row : Row) (t u : Table) → IsTableRow row t → IsTableRow row u → t ≡ u
row_tells row t u p q =
    let tree : t.tree ≡ u.tree = let same = sym p.described.id ∙ q.described.id in let n : pos (t.tree + 1) ≡ pos (u.tree + 1) = cc in let m : t.tree + 1 ≡ u.tree + 1 = cc in omega (arith, m) in
    let text : p.sql ≡ q.sql = let same = sym p.sql_is ∙ q.sql_is in cc in
    let made : p.defined.0 ≡ q.defined.0 = let same = sym p.defined.1 ∙ ap table_defined_by text ∙ q.defined.1 in cc in
    p.defined.2 ∙ (λ i. record (made i) { tree = tree i }) ∙ sym q.defined.2

rows_tell : (rows : List Row) (ts us : List Table) → AllZip IsTableRow rows ts → AllZip IsTableRow rows us → ts ≡ us
rows_tell [] [] [] p q = refl
rows_tell [] (t ∷ ts) us p q = absurd p
rows_tell [] [] (u ∷ us) p q = absurd q
rows_tell (r ∷ rows) [] us p q = absurd p
rows_tell (r ∷ rows) (t ∷ ts) [] p q = absurd q
rows_tell (r ∷ rows) (t ∷ ts) (u ∷ us) p q = λ i. row_tells r t u p.0 q.0 i ∷ rows_tell rows ts us p.1 q.1 i

pub trees_tell_tables : TreesTellTables
trees_tell_tables old found p q same =
    rows_tell (filter is_table_row (old.trees catalog_tree)) found.schema.tables old.schema.tables
    (subst (λ (trees : Trees). AllZip IsTableRow (filter is_table_row (trees catalog_tree)) found.schema.tables) same q.lists.listed.tables) p.lists.listed.tables

-- a table that stands is found again by its trees
found_table : (old found : Database) → found.schema.tables ≡ old.schema.tables → found.trees ≡ old.trees → (t : Table) (rows : List Row) → HasTable old t rows → HasTable found t rows
found_table old found tables trees t rows h = record {
  at = h.at;
  tree = h.tree;
  named = ap (position_from (λ (u : Table). same_name u.name t.name) 0) tables ∙ h.named;
  there = ap (λ (ts : List Table). slice_get ts h.at) tables ∙ h.there;
  alone = λ other has is. h.alone other (subst (λ ts. Has ts other) tables has) is;
  rows_are = subst (λ (all : Trees). HasRows (all h.tree) rows) (sym trees) h.rows_are;
}

found_tables : (old found : Database) → found.schema.tables ≡ old.schema.tables → found.trees ≡ old.trees → (all : List Table) (lists : List (List Row)) → AllZip (HasTable old) all lists → AllZip (HasTable found) all lists
found_tables old found tables trees [] [] h = tt
found_tables old found tables trees [] (rows ∷ lists) h = absurd h
found_tables old found tables trees (t ∷ all) [] h = absurd h
found_tables old found tables trees (t ∷ all) (rows ∷ lists) h = (found_table old found tables trees t rows h.0, found_tables old found tables trees all lists h.1)

pub made_desks_stand : MadeDesksStand
made_desks_stand old new found allows made listed trees =
    let tables = trees_tell_tables new found made.listed listed trees in
    stands_new found listed (found_tables new found tables trees desk_tables first_rows made.rows)
    (λ name. subst (AllowsTable (table_for name).name) (sym (tables ∙ ap (λ (s : Schema). s.tables) made.schema_is)) (desk_leaves (table_for name).name old.schema (record { unreferred = allows.unreferred name; apart = allows.apart })))
