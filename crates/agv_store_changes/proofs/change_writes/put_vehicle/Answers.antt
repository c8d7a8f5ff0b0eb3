use Rattle.std.proofs.Common.{refl}
use Rattle.agv_store_schema.specs.declared.table_name.TableName.TheVariants as the
use Rattle.agv_store_sql.proofs.WritesThen.{retold}
use Rattle.agv_store_changes.proofs.ChangesRun.{puts_over}
use Rattle.agv_store_changes.proofs.OwnKeys.{vehicle_key_is}
use Rattle.agv_store_rows.proofs.FittingRows.{vehicle_fits}
use Rattle.agv_store_changes.proofs.change_writes.put_vehicle.Goals as goal

pub returns : goal.returns
returns g c =
    retold g.S.Store c.put_over.ensures (λ _. puts_over the.Vehicle _ _ _ _ _ _ c.put_over.result
    c.vehicle_key_values.ensures c.vehicle_values.ensures (vehicle_fits c.args.key.now c.args.vehicle.now) refl (vehicle_key_is c.args.key.now c.args.vehicle.now))
