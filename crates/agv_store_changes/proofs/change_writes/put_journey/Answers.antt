use Rattle.std.proofs.Common.{refl}
use Rattle.agv_store_schema.specs.declared.table_name.TableName.TheVariants as the
use Rattle.agv_store_sql.proofs.WritesThen.{retold}
use Rattle.agv_store_changes.proofs.ChangesRun.{puts_over}
use Rattle.agv_store_changes.proofs.OwnKeys.{journey_key_is}
use Rattle.agv_store_rows.proofs.FittingRows.{journey_fits}
use Rattle.agv_store_changes.proofs.change_writes.put_journey.Goals as goal

pub returns : goal.returns
returns g c =
    retold g.S.Store c.put_over.ensures (λ _. puts_over the.Journey _ _ _ _ _ _ c.put_over.result
    c.name_key_values.ensures c.journey_values.ensures (journey_fits c.args.order.now c.args.journey.now) refl (journey_key_is c.args.order.now c.args.journey.now))
