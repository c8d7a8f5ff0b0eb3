use Rattle.std.proofs.Common.{◌↔◌, ◌≢◌, length}
use Rattle.sqlite_trees.specs.Tree.{IsAscending}
use Rattle.sqlite_schema.specs.declared.schema.Table.{Table}
use Rattle.agv_store_create.proofs.tables_beside.are_apart.Given as goal

-- all tables are apart where those that are left are
abbrev pub invariant-loop-rest : goal.invariant-loop-rest
invariant-loop-rest l = IsAscending (λ (s t : Table). s.tree ≢ t.tree) l.rest ↔ IsAscending (λ (s t : Table). s.tree ≢ t.tree) l.fn.tables

abbrev pub decreases-loop-rest : goal.decreases-loop-rest
decreases-loop-rest l = length l.rest
