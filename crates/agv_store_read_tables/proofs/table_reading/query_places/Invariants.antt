use Rattle.std.proofs.Common.{◌≡◌, ◌-◌, ◌^◌}
use Rattle.std.specs.FinMap as map
use Rattle.agv_store_rows.specs.Columns.{load_in}
use Rattle.agv_store_schema.specs.declared.table_name.TableName.TheVariants as the
use Rattle.agv_store_read_tables.proofs.RowsTaken.{IsTaken}
use Rattle.agv_store_read_tables.proofs.table_reading.query_places.Given as goal

-- the table has what the rows tell that were taken so far
abbrev pub invariant-rows : goal.invariant-rows
invariant-rows g l = (l.rows.conn.ghost_name ≡ l.initial.rows.conn.ghost_name) × IsTaken g.S.Store the.Load load_in l.fn.conn l.rows.conn.now l.table

-- no table has more rows than can be counted
abbrev pub decreases-rows : goal.decreases-rows
decreases-rows g l = 2 ^ 64 - map.len l.table
