use Rattle.std.proofs.Common.{◌≡◌, drop}
use Rattle.std.specs.FinSet as set
use Rattle.agv_store_rows.specs.Columns.{node_in}
use Rattle.agv_store_read.specs.ReadTables.{read_members}
use Rattle.agv_store_read.proofs.row_tables.nodes_in_rows.Given as goal

-- what is read, and what is left, make all
abbrev pub invariant-loop-row : goal.invariant-loop-row
invariant-loop-row l = read_members node_in l.table (drop l.row-index l.rows) ≡ read_members node_in set.empty l.rows
