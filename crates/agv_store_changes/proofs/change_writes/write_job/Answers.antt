use Rattle.std.proofs.Common.{refl}
use Rattle.agv_store_schema.specs.declared.table_name.TableName.TheVariants as the
use Rattle.agv_store_sql.proofs.WritesThen.{retold}
use Rattle.agv_store_changes.proofs.ChangesRun.{puts_over}
use Rattle.agv_store_changes.proofs.OwnKeys.{job_key_is}
use Rattle.agv_store_changes.proofs.change_writes.write_job.Goals as goal

pub returns : goal.returns
returns g c =
    retold g.S.Store c.put_over.ensures (λ _. puts_over the.Job _ _ _ _ _ _ c.put_over.result
    c.name_key_values.ensures c.job_values.ensures refl refl (job_key_is c.args.id.now c.args.job.now))
