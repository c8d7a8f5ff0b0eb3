-- The parameters of a statement as the columns of a row, and what a table doesn't add to them: no time and no count.
use Rattle.std.proofs.Common.{◌≡◌, ℕ, zero, suc, Bool, false, List, [], ◌∷◌, ◌/◌, length, drop, Option, None, Some, refl, sym, ap, ap₂, ◌∙◌, append-nil}
use Rattle.sqlite_value.specs.declared.value.Value.TheVariants.{Null}
use Rattle.sqlite_value.specs.Order.{Row, column}
use Rattle.sqlite_sql.specs.Term.{eval_all}
use Rattle.sqlite_trees.specs.Tree.{rowid}
use Rattle.sqlite.specs.Effect.{value_rows}
use Rattle.sqlite.specs.Rows.{stamped}
use Rattle.agv_store_schema.specs.DeskRows.{RowidColumn, first_columns, row_shown, table_for, width_of}
use Rattle.agv_store_schema.specs.declared.table_name.TableName.{TableName}
use Rattle.agv_store_schema.specs.declared.table_name.TableName.TheVariants as the
use Rattle.agv_store_sql.proofs.QueryMeanings.{terms_by}
use Rattle.agv_store_sql.proofs.RowMeanings.{from_slot, row_terms}

-- ---- columns in turn

column_past : (k : ℕ) (row : Row) → column row k ≡ column (drop k row) 0
column_past zero row = refl
column_past (suc k) [] = refl
column_past (suc k) (v ∷ row) = column_past k row

drop_one_more : (k : ℕ) (row : Row) → drop 1 (drop k row) ≡ drop (suc k) row
drop_one_more zero row = refl
drop_one_more (suc zero) [] = refl
drop_one_more (suc (suc k)) [] = refl
drop_one_more (suc k) (v ∷ row) = drop_one_more k row

-- the values of a slot from a place on
pub params_in_turn : (k n : ℕ) (params : Row) (more : List Row) → eval_all (from_slot 0 k n) (params ∷ more) ≡ first_columns n (drop k params)
params_in_turn k zero params more = refl
params_in_turn k (suc n) params more = ap₂ ◌∷◌ (column_past k params) (params_in_turn (suc k) n params more ∙ ap (first_columns n) (sym (drop_one_more k params)))

pub columns_in_turn : (k n : ℕ) (params entry : Row) → eval_all (from_slot 1 k n) (params ∷ entry ∷ []) ≡ first_columns n (drop k entry)
columns_in_turn k zero params entry = refl
columns_in_turn k (suc n) params entry = ap₂ ◌∷◌ (column_past k entry) (columns_in_turn (suc k) n params entry ∙ ap (first_columns n) (sym (drop_one_more k entry)))

-- the row that is shown of an entry, whether its first column is the rowid or not
pub rows_in_turn : (r : Option RowidColumn) (width : ℕ) (params entry : Row) → eval_all (terms_by r width) (params ∷ entry ∷ []) ≡ row_shown r width entry
rows_in_turn None width params entry = columns_in_turn 1 width params entry
rows_in_turn (Some first) zero params entry = refl
rows_in_turn (Some first) (suc width) params entry =
    ap (λ (more : Row). rowid entry ∷ more) (columns_in_turn 2 width params entry ∙ ap (first_columns width) (sym (drop_one_more 1 entry)))

-- the row of an INSERT is the parameters
pub one_row : (name : TableName) (params : Row) → value_rows params (suc (width_of name)) (length (row_terms name) / suc (width_of name)) (row_terms name) ≡ (Null ∷ eval_all (from_slot 0 0 (width_of name)) (params ∷ [])) ∷ []
one_row the.Meta params = refl
one_row _ params = refl

pub unstamped : (name : TableName) (tree : ℕ) (params : Row) → stamped (record (table_for name) { tree = tree }) params ≡ params
unstamped the.Meta tree params = append-nil params
unstamped _ tree params = append-nil params

pub uncounted : (name : TableName) → (table_for name).is_counted ≡ false
uncounted the.Meta = refl
uncounted _ = refl
