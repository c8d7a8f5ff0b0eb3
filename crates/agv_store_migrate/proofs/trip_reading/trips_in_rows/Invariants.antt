use Rattle.std.proofs.Common.{◌≡◌, drop}
use Rattle.std.specs.FinMap as map
use Rattle.agv_store_read.specs.ReadTables.{read_rows}
use Rattle.agv_store_migrate.specs.FirstColumns.{trip_with}
use Rattle.agv_store_migrate.proofs.trip_reading.trips_in_rows.Given as goal

-- what is read, and what is left, make all
abbrev pub invariant-loop-row : goal.invariant-loop-row
invariant-loop-row l = read_rows (trip_with l.jobs) l.table (drop l.row-index l.rows) ≡ read_rows (trip_with l.jobs) map.empty l.rows
