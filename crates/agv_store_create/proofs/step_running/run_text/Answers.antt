use Rattle.sqlite.specs.Held.{state}
use Rattle.agv_store_create.proofs.Causes.{text_caused}
use Rattle.agv_store_create.proofs.StepsRun.{runs_one}
use Rattle.agv_store_create.proofs.step_running.run_text.Goals as goal

pub returns-clause-ran : goal.returns-clause-ran
returns-clause-ran g c clean =
    runs_one c.args.sql.now (state g.S.Store c.args.tx.now.conn.now) (state g.S.Store c.execute.new.self.conn.now) c.execute.result (λ idle. (c.execute.ensures.ended idle).0) (c.execute.ensures.runs clean)

pub returns-clause-caused : goal.returns-clause-caused
returns-clause-caused g c clean inside =
    text_caused c.args.sql.now (state g.S.Store c.args.tx.now.conn.now) (state g.S.Store c.execute.new.self.conn.now) c.execute.result (c.execute.ensures.runs clean inside)
