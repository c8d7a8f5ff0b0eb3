use Rattle.agv_store_rows.specs.Columns.{vehicle_capacity_columns, vehicle_columns}
use Rattle.agv_store_schema.specs.DeskRows.{with_put}
use Rattle.agv_store_rows.specs.RowKeys.{vehicle_key}
use Rattle.agv_store_schema.specs.declared.table_name.TableName.TheVariants as the
use Rattle.agv_store_schema.proofs.StatesKept.{on_ok}
use Rattle.agv_store_sql.proofs.DeskStatements.{makes_then}
use Rattle.agv_store_sql.proofs.WritesThen.{writes_then}
use Rattle.agv_store_changes.proofs.change_writes.write_vehicle.Goals as goal

pub returns : goal.returns
returns g c =
    let key = c.args.key.now in
    let vehicle = c.args.vehicle.now in
    writes_then g.S.Store c.in_ok-put_vehicle.ensures c.write_capacity.ensures (λ _ puts writes.
    on_ok c.write_capacity.result
    (makes_then (with_put the.Vehicle (vehicle_key key) (vehicle_columns key vehicle)) (with_put the.Capacity (vehicle_key key) (vehicle_capacity_columns key vehicle)) _ _ _ puts) (writes puts.mode))
