use Rattle.std.proofs.Common.{◌≡◌, true, rules}
use Rattle.sqlite.specs.Held.{state}
use Rattle.agv_store_create.proofs.StepsRefused.{as_step}
use Rattle.agv_store_create.proofs.step_running.run_step.Goals as goal

pub returns-then-is_wanted-clause-caused : goal.returns-then-is_wanted-clause-caused
returns-then-is_wanted-clause-caused g c clean inside =
    let wanted : c.args.is_wanted ≡ true = search rules in
    as_step c.args.is_wanted c.args.sql.now (state g.S.Store c.args.tx.now.conn.now).now _ c.run_text.result wanted (c.run_text.ensures.caused clean inside)
