-- The existing rows of the acts of an order, whatever position and status they have. No public clause cites this.
use Rattle.std.specs.Prelude.{◌≡◌, ◌+◌, ℕ, List, [], ◌∷◌, filter}
use Rattle.sqlite_value.specs.Order.{Row}
use Rattle.agv_store_rows.specs.TripRows.{act_key}
use Rattle.agv_store_rows.specs.declared.act_row.ActRow.{ActRow}
use Rattle.agv_store_rows.specs.Columns.{act_columns}
use Rattle.agv_store_schema.specs.DeskRows.{has_columns, place_of, table_at}
use Rattle.agv_store_rows.specs.RowKeys.{name_key}
use Rattle.agv_store_schema.specs.RowTexts.{columns_deleted}
use Rattle.agv_store_schema.specs.declared.table_name.TableName.TheVariants as the

-- the row is that of the order's act with this number
pub record IsOfOrder (order : List ℕ) (n : ℕ) (row : Row) : Type 0 where
  pub told : ActRow
  pub is : row ≡ act_columns (act_key order n) told

-- the rows are those of the order's acts from this number on
abbrev pub AreOfOrder : List ℕ → ℕ → List Row → Type 0
AreOfOrder order n [] = Unit {0}
AreOfOrder order n (row ∷ rows) = IsOfOrder order n row × AreOfOrder order (n + 1) rows

-- the rows of the acts of an order
abbrev pub acts_listed : List ℕ → List (List Row) → List Row
acts_listed order lists = filter (has_columns (columns_deleted the.Act) (name_key order)) (table_at (place_of the.Act) lists)
