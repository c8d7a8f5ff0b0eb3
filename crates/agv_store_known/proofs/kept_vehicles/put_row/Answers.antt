use Rattle.agv_store_known.proofs.KeptVehicles.{vehicle_written}
use Rattle.agv_store_known.proofs.kept_vehicles.put_row.Goals as goal

pub returns : goal.returns
returns c maps = vehicle_written c.args.key.now c.args.vehicle.now maps c.args.vehicles.now c.remove.new.self c.insert-kept.new.self c.remove.ensures c.insert-kept.result c.insert-kept.ensures.ok c.insert-kept.ensures.err
