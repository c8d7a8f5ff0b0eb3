use Rattle.std.proofs.Common.{◌≡◌, drop}
use Rattle.std.specs.FinMap as map
use Rattle.agv_store_rows.specs.Columns.{journey_in}
use Rattle.agv_store_read.specs.ReadTables.{read_rows}
use Rattle.agv_store_read.proofs.row_tables.journeys_in_rows.Given as goal

-- what is read, and what is left, make all
abbrev pub invariant-loop-row : goal.invariant-loop-row
invariant-loop-row l = read_rows journey_in l.table (drop l.row-index l.rows) ≡ read_rows journey_in map.empty l.rows
