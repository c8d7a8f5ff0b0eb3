use Rattle.std.proofs.Common.{codes, rules}
use Rattle.agv_store_schema.specs.declared.table_name.TableName.TheVariants as the
use Rattle.agv_store_migrate.proofs.MovingStatements.{all_deleted, empties_meta}
use Rattle.agv_store_migrate.specs.MoveStatements.{meta_emptied}
use Rattle.agv_store_sql.proofs.Refusing.{ends_one}
use Rattle.agv_store_migrate.proofs.row_moving.clear_number.Goals as goal

pub returns-clause-made : goal.returns-clause-made
returns-clause-made g c = record {
  same_reference = search rules;
  survives = search rules;
  kept = search rules;
  made = λ clean. all_deleted the.Meta (codes "DELETE FROM meta") empties_meta _ _ c.execute.result (λ idle. (c.execute.ensures.ended idle).0, c.execute.ensures.runs clean);
}

pub returns-clause-ends : goal.returns-clause-ends
returns-clause-ends g c = ends_one g.S.Store c.args.tx.now c.execute.new.self meta_emptied c.execute.result c.execute.ensures.runs
