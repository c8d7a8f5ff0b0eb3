use Rattle.agv_store_migrate.proofs.FewActs.{few_acts}
use Rattle.agv_store_migrate.proofs.MovingRun.{told_of_store}
use Rattle.agv_store_migrate.proofs.table_moving.move_tables.Goals as goal

pub returns-in_err-run_move-clause-caused : goal.returns-in_err-run_move-clause-caused
returns-in_err-run_move-clause-caused g c clean is first world has keeps =
    let few = few_acts c.stops_twice.ensures c.args.tables.now world has.lawful has.served keeps in
    c.in_err-run_move.ensures.caused clean few (told_of_store c.from_residual.result c.in_err-run_move.field-0.0 c.from_residual.ensures.1 is)
