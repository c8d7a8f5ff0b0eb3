-- The SQL texts that overwrite the row of a key, their effect on the rows, and the errors by which a constraint refuses a row. No public clause cites these.
use Rattle.std.specs.Prelude.{◌≡◌, ◌++◌, ℕ, Bool, List, [], codes, false, filter, length, map, not, true}
use Rattle.sqlite_value.specs.Order.{Row}
use Rattle.sqlite_schema.specs.declared.schema.Constraint.{Constraint}
use Rattle.sqlite.specs.State.{State}
use Rattle.sqlite.specs.declared.error.Error.{Error}
use Rattle.sqlite.specs.declared.error.Error.TheVariants.{SqliteFailure}
use Rattle.sqlite.specs.declared.error.ErrorCode.TheVariants.{ConstraintViolation}
use Rattle.agv_store_schema.specs.DeskRows.{Placing, Holds, IsDesk, has_columns, on_table, place_of, table_at}
use Rattle.agv_store_schema.specs.declared.table_name.TableName.{TableName}
use Rattle.agv_store_schema.specs.declared.table_name.TableName.TheVariants as the

-- rows of the table are updated in place: the state of a vehicle, the progress of a trip, the place of a load, the phase of a job, the status of an act
abbrev pub is_updated : TableName → Bool
is_updated the.Vehicle = true
is_updated the.Journey = true
is_updated the.Load = true
is_updated the.Job = true
is_updated the.Act = true
is_updated _ = false

-- the UPDATE by primary key; the parameters are the columns of the row
abbrev pub update_text : TableName → List ℕ
update_text the.Vehicle = codes "UPDATE vehicle SET manufacturer = ?1, serial = ?2, node = ?3, rest_edge = ?4, rest_node = ?5, last_header = ?6, reported = ?7, ready = ?8, paused = ?9, order_header = ?10, order_at = ?11, instant_header = ?12, instant_at = ?13, pending = ?14 WHERE manufacturer = ?1 AND serial = ?2"
update_text the.Journey = codes "UPDATE journey SET order_id = ?1, manufacturer = ?2, serial = ?3, start = ?4, first = ?5, base = ?6, sent = ?7, confirmed = ?8, seen = ?9 WHERE order_id = ?1"
update_text the.Load = codes "UPDATE load SET id = ?1, kind = ?2, station = ?3, manufacturer = ?4, serial = ?5 WHERE id = ?1"
update_text the.Job = codes "UPDATE job SET id = ?1, load = ?2, origin = ?3, target = ?4, phase = ?5 WHERE id = ?1"
update_text the.Act = codes "UPDATE act SET order_id = ?1, n = ?2, job = ?3, kind = ?4, place_at = ?5, status = ?6 WHERE order_id = ?1 AND n = ?2"
update_text _ = []

-- the lists with each row that is equal to the given one in these columns replaced by it
abbrev pub with_each : TableName → List ℕ → Row → List (List Row) → List (List Row)
with_each name columns row =
    on_table (place_of name) (λ rows. map (λ _. row) (filter (has_columns columns row) rows) ++ filter (λ other. not (has_columns columns row other)) rows)

-- the number of rows of the table that were equal to it in these columns
abbrev pub Counts : TableName → List ℕ → Row → State → ℕ → Type 0
Counts name columns row old count =
    (desk : Placing) → IsDesk desk → (lists : List (List Row)) → Holds desk old.now lists → count ≡ length (filter (has_columns columns row) (table_at (place_of name) lists))

-- other rows are equal to `row` in these columns exactly if they are equal to `key`
abbrev pub TellsAlike : List ℕ → Row → Row → Type 0
TellsAlike columns key row = (other : Row) → has_columns columns key other ≡ has_columns columns row other

-- `row` is equal to itself in these columns, so none of them is NULL, and other rows are equal to it exactly if they are equal to `key`
pub record IsKeyOf (columns : List ℕ) (key row : Row) : Type 0 where
  pub itself : has_columns columns row row ≡ true
  pub alike : TellsAlike columns key row

-- ---- rows that a constraint refuses

-- the error says that a constraint of the table refuses the row
abbrev pub IsBrokenRule : Error → Type 0
IsBrokenRule e = (rule : Constraint) × (e ≡ SqliteFailure (ConstraintViolation rule))
