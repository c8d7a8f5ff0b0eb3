use Rattle.std.proofs.Common.{◌≡◌, drop, IsPermutation}
use Rattle.std.specs.FinMap as map
use Rattle.agv_store_rows.specs.Columns.{hold_in}
use Rattle.agv_store_read.specs.ReadTables.{read_rows}
use Rattle.agv_store_read.proofs.held_rows.holds_in_rows.Given as goal

-- what is read, and what is left, make all; and the list has the table's entries
abbrev pub invariant-loop-row : goal.invariant-loop-row
invariant-loop-row l = (read_rows hold_in l.table (drop l.row-index l.rows) ≡ read_rows hold_in map.empty l.rows) × IsPermutation (map.entries l.table) l.pairs.items
