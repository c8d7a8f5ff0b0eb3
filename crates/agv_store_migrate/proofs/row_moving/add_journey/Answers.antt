use Rattle.std.proofs.Common.{[], ◌∷◌, subst}
use Rattle.agv_store_schema.specs.declared.table_name.TableName.TheVariants as the
use Rattle.agv_store_sql.specs.Refusals.{EndsInside, insertions}
use Rattle.agv_store_migrate.proofs.row_moving.add_journey.Goals as goal

pub returns-clause-ends : goal.returns-clause-ends
returns-clause-ends g c = subst (λ row. EndsInside g.S.Store c.args.tx.now c.insert_row.new.tx (insertions the.Journey (row ∷ [])) c.insert_row.result) c.journey_values.ensures c.insert_row.ensures.ends
