use Rattle.std.proofs.Common.{[], ◌∷◌}
use Rattle.agv_store_schema.specs.declared.table_name.TableName.TheVariants as the
use Rattle.agv_store_migrate.specs.MoveStatements.{meta_emptied, number_inserted}
use Rattle.agv_store_migrate.specs.Moved.{without_all}
use Rattle.agv_store_rows.specs.Columns.{meta_columns}
use Rattle.agv_store_schema.specs.DeskRows.{with_row}
use Rattle.agv_store_schema.specs.SchemaNumbers.{schema_number}
use Rattle.agv_store_sql.proofs.Refusing.{ends_as, ends_then, fails_early}
use Rattle.agv_store_sql.proofs.WritesThen.{writes_then}
use Rattle.agv_store_migrate.proofs.MovingEach.{then_made}
use Rattle.agv_store_migrate.proofs.row_moving.number_anew.Goals as goal

pub returns-clause-made : goal.returns-clause-made
returns-clause-made g c =
    writes_then g.S.Store c.in_ok-clear_number.ensures.made c.write_number.ensures.made
    (λ _. then_made (without_all the.Meta) (with_row the.Meta (meta_columns 1 schema_number)) _ _ _ c.write_number.result)

pub returns-in_err-clear_number-clause-ends : goal.returns-in_err-clear_number-clause-ends
returns-in_err-clear_number-clause-ends g c =
    let e = c.in_err-clear_number.field-0.0 in
    ends_as g.S.Store c.args.tx.now c.clear_number.new.tx (meta_emptied ∷ number_inserted ∷ []) e c.from_residual.result c.from_residual.ensures.1
    (fails_early g.S.Store c.args.tx.now c.clear_number.new.tx (meta_emptied ∷ []) (number_inserted ∷ []) e c.in_err-clear_number.ensures.ends)

pub returns-clause-ends : goal.returns-clause-ends
returns-clause-ends g c =
    ends_then g.S.Store c.args.tx.now c.clear_number.new.tx c.write_number.new.tx (meta_emptied ∷ []) (number_inserted ∷ []) c.clear_number.ensures.made.survives c.write_number.ensures.made.survives
    c.in_ok-clear_number.ensures.ends c.write_number.result c.write_number.ensures.ends
