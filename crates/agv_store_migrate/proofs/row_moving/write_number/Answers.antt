use Rattle.std.proofs.Common.{[], ◌∷◌, subst, rules}
use Rattle.sqlite.specs.Values.{bound}
use Rattle.agv_store_migrate.proofs.MovingStatements.{number_written}
use Rattle.agv_store_migrate.specs.MoveStatements.{number_inserted}
use Rattle.agv_store_sql.specs.Refusals.{EndsInside}
use Rattle.agv_store_sql.proofs.Refusing.{ends_one}
use Rattle.agv_store_migrate.proofs.row_moving.write_number.Goals as goal

pub returns-clause-made : goal.returns-clause-made
returns-clause-made g c = record {
  same_reference = search rules;
  survives = search rules;
  kept = search rules;
  made = λ clean. number_written (bound c.number_values.result) c.number_values.ensures _ _ c.execute.result (λ idle. (c.execute.ensures.ended idle).0, c.execute.ensures.runs clean);
}

pub returns-clause-ends : goal.returns-clause-ends
returns-clause-ends g c =
    subst (λ row. EndsInside g.S.Store c.args.tx.now c.execute.new.self ((number_inserted.0, row) ∷ []) c.execute.result) c.number_values.ensures
    (ends_one g.S.Store c.args.tx.now c.execute.new.self (number_inserted.0, bound c.number_values.result) c.execute.result c.execute.ensures.runs)
