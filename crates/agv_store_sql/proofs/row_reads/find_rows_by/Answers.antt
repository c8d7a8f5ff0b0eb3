use Rattle.sqlite.specs.Held.{state}
use Rattle.sqlite.specs.Values.{bound}
use Rattle.agv_store_sql.proofs.DeskStatements.{query_shown, on_failed}
use Rattle.agv_store_sql.proofs.sql.ReadFailing.{query_caused}
use Rattle.agv_store_schema.proofs.Running.{query_fails}
use Rattle.agv_store_sql.proofs.sql.Selecting.{query_selects, select_keeps, select_survives}
use Rattle.agv_store_sql.proofs.row_reads.find_rows_by.Goals as goal

pub returns-clause-shown : goal.returns-clause-shown
returns-clause-shown g c clean =
    query_shown (bound c.args.values.now) (state g.S.Store c.args.conn.now) (state g.S.Store c.query_all.new.self) c.query_all.result c.query.result.now c.args.by c.query.ensures (c.query_all.ensures.ok clean)

pub returns-clause-failed : goal.returns-clause-failed
returns-clause-failed g c clean = on_failed c.query_all.result (λ e. query_fails _ _ _ _ e) (c.query_all.ensures.err clean)

pub returns-clause-kept : goal.returns-clause-kept
returns-clause-kept g c clean =
    select_keeps (bound c.args.values.now) (state g.S.Store c.args.conn.now) (state g.S.Store c.query_all.new.self) c.query.result.now (query_selects c.args.by c.query.result.now c.query.ensures) c.query_all.result (c.query_all.ensures.ok clean)

pub returns-clause-survives : goal.returns-clause-survives
returns-clause-survives g c =
    select_survives (bound c.args.values.now) (state g.S.Store c.args.conn.now) (state g.S.Store c.query_all.new.self) c.query.result.now (query_selects c.args.by c.query.result.now c.query.ensures) c.query_all.ensures.survives

pub returns-clause-caused : goal.returns-clause-caused
returns-clause-caused g c clean = query_caused (bound c.args.values.now) (state g.S.Store c.args.conn.now) (state g.S.Store c.query_all.new.self) c.query_all.result c.query.result.now (c.query_all.ensures.err clean) c.args.by c.query.ensures

pub returns-clause-idle : goal.returns-clause-idle
returns-clause-idle g c = c.query_all.ensures.mode
