use Rattle.sqlite.specs.Values.{bound}
use Rattle.agv_store_schema.specs.RowTexts.{columns_deleted}
use Rattle.agv_store_sql.proofs.DeskStatements.{puts_row}
use Rattle.agv_store_sql.proofs.WritesThen.{writes_then}
use Rattle.agv_store_sql.proofs.row_writes.put_row.Goals as goal

pub returns : goal.returns
returns g c =
    writes_then g.S.Store c.in_ok-delete_row.ensures c.insert_row.ensures.writes
    (λ _ gone added fit. puts_row c.args.table (columns_deleted c.args.table) (bound c.args.key.now) (bound c.args.row.now) _ _ _ c.insert_row.result (added fit) gone)
