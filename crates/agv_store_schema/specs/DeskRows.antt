-- The desk's tables in a database that may have other tables too, and the rows that they hold.
use Rattle.std.specs.Prelude.{◌≡◌, ◌≢◌, ◌⊎◌, ◌-◌, ◌^◌, if◌then◌else◌, ℕ, zero, suc, Bool, true, false, not, ◌&&◌, nat_le, List, [], ◌∷◌, length, map, drop, filter, Option, None, Some, option_map, IsTrue, IsPermutation, slice_get}
use Rattle.std.specs.List.{AllZip, AllByRecursion, list_all}
use Rattle.sqlite_value.specs.Keys.{plain}
use Rattle.sqlite_value.specs.Order.{Row, column}
use Rattle.sqlite_value.specs.declared.keys.Collation.TheVariants.{Binary}
use Rattle.sqlite_value.specs.declared.value.Value.{Value}
use Rattle.sqlite_value.specs.declared.value.Value.TheVariants.{Null, Int, Text}
use Rattle.sqlite_trees.specs.Tree.{Trees, rowid, IsAscending}
use Rattle.sqlite_trees.specs.View.{is_int}
use Rattle.sqlite_sql.specs.declared.ops.BinaryOp.TheVariants.{Compare}
use Rattle.sqlite_sql.specs.declared.ops.CompareOp.TheVariants.{Eq}
use Rattle.sqlite_sql.specs.Ops.{binary, is_true}
use Rattle.sqlite_schema.specs.Names.{same_name, table_named}
use Rattle.sqlite_schema.specs.declared.schema.Column.{Column}
use Rattle.sqlite_schema.specs.declared.schema.Kind.{Kind}
use Rattle.sqlite_schema.specs.declared.schema.Kind.TheVariants as kind
use Rattle.sqlite_schema.specs.declared.schema.Reference.{Reference}
use Rattle.sqlite_schema.specs.declared.schema.Schema.{Schema}
use Rattle.sqlite_schema.specs.declared.schema.Table.{Table}
use Rattle.sqlite_rules.specs.Edit.{id_in}
use Rattle.sqlite_rules.specs.Lists.{Has}
use Rattle.sqlite.specs.Effect.{Database, IsDatabase}
use Rattle.sqlite.specs.State.{State}
use Rattle.agv_store_schema.specs.Schema.{meta_table, node_table, edge_table, station_table, vehicle_table, trip_table, leg_table, place_table, job_table, hold_table, used_table, capacity_table, journey_table, act_table}
use Rattle.agv_store_schema.specs.declared.table_name.TableName.{TableName}
use Rattle.agv_store_schema.specs.declared.table_name.TableName.TheVariants as the

-- ---- the fourteen tables

-- the table of that name as the desk creates it, apart from the number of its tree
abbrev pub table_for : TableName → Table
table_for the.Meta = meta_table
table_for the.Node = node_table
table_for the.Edge = edge_table
table_for the.Station = station_table
table_for the.Vehicle = vehicle_table
table_for the.Trip = trip_table
table_for the.Leg = leg_table
table_for the.Load = place_table
table_for the.Job = job_table
table_for the.Hold = hold_table
table_for the.Used = used_table
table_for the.Capacity = capacity_table
table_for the.Journey = journey_table
table_for the.Act = act_table

-- the tables in the order of the lists of their rows
abbrev pub table_names : List TableName
table_names = the.Meta ∷ the.Node ∷ the.Edge ∷ the.Station ∷ the.Vehicle ∷ the.Trip ∷ the.Leg ∷ the.Load ∷ the.Job ∷ the.Hold ∷ the.Used ∷ the.Capacity ∷ the.Journey ∷ the.Act ∷ []

-- the position of a table in that order
abbrev pub place_of : TableName → ℕ
place_of the.Meta = 0
place_of the.Node = 1
place_of the.Edge = 2
place_of the.Station = 3
place_of the.Vehicle = 4
place_of the.Trip = 5
place_of the.Leg = 6
place_of the.Load = 7
place_of the.Job = 8
place_of the.Hold = 9
place_of the.Used = 10
place_of the.Capacity = 11
place_of the.Journey = 12
place_of the.Act = 13

-- the number of columns of the table
abbrev pub width_of : TableName → ℕ
width_of name = length (table_for name).columns

-- ---- the tables in a schema

-- a first column that is the rowid (INTEGER PRIMARY KEY): whether it is declared NOT NULL and whether it is declared UNIQUE as well
pub record RowidColumn : Type 0 where
  pub not_null : Bool
  pub is_unique : Bool

-- the keys of a table as they are written: the PRIMARY KEY, if there is one, and the keys that have an index, in their order; a key is a list of columns
pub record TableKeys : Type 0 where
  pub primary : List ℕ
  pub indexed : List (List ℕ)
  -- the first column, if it is the rowid
  pub rowid_column : Option RowidColumn

-- a schema, with the number of the tree of each of the fourteen tables and its keys as they are written
pub record Placing : Type 0 where
  pub schema : Schema
  pub tree : TableName → ℕ
  pub keys : TableName → TableKeys

-- the same columns, in any order
pub record SameColumns (a b : List ℕ) : Type 0 where
  pub one : AllByRecursion (λ place. Has b place) a
  pub other : AllByRecursion (λ place. Has a place) b

-- one of the keys has these columns
abbrev pub HasKey : List (List ℕ) → List ℕ → Type 0
HasKey [] key = ⊥
HasKey (k ∷ keys) key = SameColumns key k ⊎ HasKey keys key

-- the same keys, in any order
pub record SameKeys (a b : List (List ℕ)) : Type 0 where
  pub one : AllByRecursion (HasKey b) a
  pub other : AllByRecursion (HasKey a) b

-- the first column of the table, if it is the rowid; only `meta` may have such a column
abbrev pub rowid_column_of : TableName → TableKeys → Option RowidColumn
rowid_column_of the.Meta keys = keys.rowid_column
rowid_column_of _ keys = None

-- the key column of the table: the first column, if it is the rowid
abbrev pub key_by : Option RowidColumn → Option ℕ
key_by None = None
key_by (Some first) = Some 0

-- the columns of the table, the first as it is declared if it is the rowid
abbrev pub columns_by : Option RowidColumn → List Column → List Column
columns_by None columns = columns
columns_by (Some first) [] = []
columns_by (Some first) (c ∷ columns) = record c { not_null = first.not_null } ∷ columns

-- the keys of the table that have an index; a rowid column has one only if it is declared UNIQUE
abbrev pub indexed_by : Option RowidColumn → List (List ℕ) → List (List ℕ)
indexed_by None keys = keys
indexed_by (Some first) keys = if first.is_unique then (0 ∷ []) ∷ [] else []

-- the table with these keys
abbrev pub with_keys : TableKeys → Table → Table
with_keys keys table = record table { primary = keys.primary; uniques = keys.indexed; orders = map (λ _. plain) keys.indexed }

-- the first column is NOT NULL
abbrev pub is_first_required : List Column → Bool
is_first_required [] = false
is_first_required (c ∷ columns) = c.not_null

-- there is at least one key
abbrev pub has_any : List (List ℕ) → Bool
has_any [] = false
has_any (key ∷ keys) = true

-- the keys of a table as they are written; a column that is the rowid is taken to be the first one
abbrev pub keys_of : Table → TableKeys
keys_of table = record {
  primary = table.primary;
  indexed = table.uniques;
  rowid_column = option_map (λ _. record { not_null = is_first_required table.columns; is_unique = has_any table.uniques }) table.key;
}

-- the table of that name with this tree and these keys
abbrev pub table_written : TableName → ℕ → TableKeys → Table
table_written name tree keys =
    with_keys keys (record (table_for name) { tree = tree; key = key_by (rowid_column_of name keys); columns = columns_by (rowid_column_of name keys) (table_for name).columns })

-- the table of that name as it is in the schema
abbrev pub table_in : Placing → TableName → Table
table_in desk name = table_written name (desk.tree name) (desk.keys name)

-- no foreign key refers to a table of that name
abbrev pub is_unreferred : List ℕ → List Table → Bool
is_unreferred name = list_all (λ (t : Table). list_all (λ (r : Reference). not (same_name name r.parent)) t.references)

-- the table is in the schema, with the desk's columns and keys
pub record TableStands (desk : Placing) (name : TableName) : Type 0 where
  -- SQL finds it by its name
  pub at : ℕ
  pub named : table_named desk.schema (table_for name).name ≡ Some at
  -- the entry of the schema is this table
  pub there : slice_get desk.schema.tables at ≡ Some (table_in desk name)
  -- its keys are the desk's
  pub same_keys : SameKeys (desk.keys name).indexed (indexed_by (rowid_column_of name (desk.keys name)) (table_for name).uniques)
  -- the number of its tree is below 2^31
  pub low : nat_le (2 ^ 31) (desk.tree name) ≡ false
  -- no foreign key refers to it
  pub unreferred : is_unreferred (table_for name).name desk.schema.tables ≡ true

-- the fourteen tables are in the schema, in any order, beside any other tables and indexes
pub record IsDesk (desk : Placing) : Type 0 where
  pub stands : (name : TableName) → TableStands desk name
  -- no two tables have the same tree
  pub apart : IsAscending (λ (s t : Table). s.tree ≢ t.tree) desk.schema.tables

-- these tables are in the schema, even if others of the fourteen are not
pub record StandApart (desk : Placing) (names : List TableName) : Type 0 where
  pub stands : AllByRecursion (TableStands desk) names
  -- no two tables have the same tree
  pub apart : IsAscending (λ (s t : Table). s.tree ≢ t.tree) desk.schema.tables

-- ---- their rows

-- each entry begins with an integer, the rowid, which no other entry has; its columns follow
pub record AreKeyed (entries : List Row) : Type 0 where
  pub whole : AllByRecursion (λ e. IsTrue (is_int (rowid e))) entries
  pub apart : IsAscending (λ a b. id_in (rowid a) ≢ id_in (rowid b)) entries

-- the first n columns of a row; a missing column is NULL
abbrev pub first_columns : ℕ → Row → Row
first_columns zero row = []
first_columns (suc n) row = column row 0 ∷ first_columns n (drop 1 row)

-- the columns of an entry of a table with that many columns
abbrev pub columns_in : ℕ → Row → Row
columns_in width entry = first_columns width (drop 1 entry)

-- the row that SQL returns for an entry with that many columns; if the first column is the rowid, the value stored in its place is ignored
abbrev pub row_shown : Option RowidColumn → ℕ → Row → Row
row_shown None width entry = columns_in width entry
row_shown (Some first) width entry = rowid entry ∷ drop 1 (columns_in width entry)

-- the row that SQL returns for an entry of that table
abbrev pub shown_in : Placing → TableName → Row → Row
shown_in desk name = row_shown (rowid_column_of name (desk.keys name)) (width_of name)

-- the entries, each read by this function, are these rows in some order, each under a rowid of its own
abbrev pub HaveRows : (Row → Row) → List Row → List Row → Type 0
HaveRows shown entries rows = AreKeyed entries × IsPermutation rows (map shown entries)

-- the table of that name has these rows in these trees
abbrev pub TableHas : Placing → Trees → TableName → List Row → Type 0
TableHas desk trees name rows = HaveRows (shown_in desk name) (trees (desk.tree name)) rows

-- the database has this schema, and the desk's tables have these rows, one list for each table in the order of `table_names`; other tables may hold anything
pub record Holds (desk : Placing) (db : Database) (lists : List (List Row)) : Type 0 where
  pub schema_is : db.schema ≡ desk.schema
  pub rows : AllZip (TableHas desk db.trees) table_names lists

-- nothing but the desk's tables has changed
pub record KeepsOthers (desk : Placing) (old new : Database) : Type 0 where
  pub schema_is : new.schema ≡ old.schema
  -- a table that is not one of the desk's has the rows that it had
  pub rows : AllByRecursion (λ (t : Table). ((name : TableName) → t.tree ≢ desk.tree name) → new.trees t.tree ≡ old.trees t.tree) desk.schema.tables

-- ---- changes to the rows

-- the list at a position
abbrev pub table_at : ℕ → List (List Row) → List Row
table_at at [] = []
table_at zero (rows ∷ more) = rows
table_at (suc at) (rows ∷ more) = table_at at more

-- the lists with the one at a position changed
abbrev pub on_table : ℕ → (List Row → List Row) → List (List Row) → List (List Row)
on_table at f [] = []
on_table zero f (rows ∷ more) = f rows ∷ more
on_table (suc at) f (rows ∷ more) = rows ∷ on_table at f more

-- equal by SQL's `=`
abbrev pub is_equal : Value → Value → Bool
is_equal a b = is_true (binary (Compare Eq Binary) a b)

-- the row is equal to another in these columns (columns are counted from 1)
abbrev pub has_columns : List ℕ → Row → Row → Bool
has_columns columns other row = list_all (λ c. is_equal (column row (c - 1)) (column other (c - 1))) columns

-- the row has that key: it is equal to it in the columns of the table's primary key
abbrev pub has_key : TableName → Row → Row → Bool
has_key name = has_columns (table_for name).primary

-- the lists with one more row of that table
abbrev pub with_row : TableName → Row → List (List Row) → List (List Row)
with_row name row = on_table (place_of name) (λ rows. row ∷ rows)

-- the lists with more rows of that table, added one after the other
abbrev pub with_rows : TableName → List Row → List (List Row) → List (List Row)
with_rows name [] lists = lists
with_rows name (row ∷ rows) lists = with_rows name rows (with_row name row lists)

-- the lists without the rows of that table that are equal to a given row in these columns
abbrev pub without_rows : TableName → List ℕ → Row → List (List Row) → List (List Row)
without_rows name columns other = on_table (place_of name) (filter (λ row. not (has_columns columns other row)))

-- the lists without the row of that key
abbrev pub without_key : TableName → Row → List (List Row) → List (List Row)
without_key name = without_rows name (table_for name).primary

-- the lists with the row in place of those that are equal to a given row in these columns
abbrev pub with_put_by : TableName → List ℕ → Row → Row → List (List Row) → List (List Row)
with_put_by name columns other row lists = with_row name row (without_rows name columns other lists)

-- the lists with the row in place of the one that has that key, if any
abbrev pub with_put : TableName → Row → Row → List (List Row) → List (List Row)
with_put name = with_put_by name (table_for name).primary

-- the rows that have that key
abbrev pub rows_of_key : TableName → Row → List (List Row) → List Row
rows_of_key name key lists = filter (has_key name key) (table_at (place_of name) lists)

-- the value is NULL or of the column's type
abbrev pub is_of_kind : Kind → Value → Bool
is_of_kind kind.Integer Null = true
is_of_kind kind.Integer (Int n) = true
is_of_kind kind.Text Null = true
is_of_kind kind.Text (Text bytes) = true
is_of_kind _ _ = false

-- there are as many values as columns, each NULL or of its column's type
abbrev pub fits : List Column → Row → Bool
fits [] [] = true
fits [] (v ∷ row) = false
fits (c ∷ columns) [] = false
fits (c ∷ columns) (v ∷ row) = is_of_kind c.kind v && fits columns row

-- the values fit the columns of the table
abbrev pub FitsTable : TableName → Row → Type 0
FitsTable name row = fits (table_for name).columns row ≡ true

-- ---- the effect of a statement

-- inside a transaction, whatever rows the tables have and whatever else is in the schema, the change is made and nothing is committed
pub record Makes (change : List (List Row) → List (List Row)) (old new : State) : Type 0 where
  pub made : (desk : Placing) → IsDesk desk → (lists : List (List Row)) → Holds desk old.now lists → Holds desk new.now (change lists)
  -- nothing else changes
  pub others : (desk : Placing) → IsDesk desk → old.now.schema ≡ desk.schema → KeepsOthers desk old.now new.now
  -- the trees still list the schema
  pub listed : (desk : Placing) → IsDesk desk → old.now.schema ≡ desk.schema → IsDatabase old.now → IsDatabase new.now
  pub kept : new.committed ≡ old.committed
  pub mode : IsTrue new.in_transaction

-- the result has the rows asked for that the tables hold, in some order
abbrev pub Answers : (List (List Row) → List Row) → State → List Row → Type 0
Answers asked old shown = (desk : Placing) → IsDesk desk → (lists : List (List Row)) → Holds desk old.now lists → IsPermutation (asked lists) shown

-- the result has the rows of this table, in some order, even if others of the fourteen tables are missing
abbrev pub AnswersAlone : TableName → State → List Row → Type 0
AnswersAlone name old shown =
    (desk : Placing) → StandApart desk (name ∷ []) → old.now.schema ≡ desk.schema → (rows : List Row) → TableHas desk old.now.trees name rows → IsPermutation rows shown
