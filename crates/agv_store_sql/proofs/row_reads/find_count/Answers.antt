use Rattle.sqlite.specs.Held.{state}
use Rattle.sqlite.specs.Values.{bound}
use Rattle.agv_store_sql.proofs.CountMeanings.{count_selects}
use Rattle.agv_store_sql.proofs.CountStatements.{count_caused, count_given}
use Rattle.agv_store_sql.proofs.DeskStatements.{on_failed}
use Rattle.agv_store_schema.proofs.Running.{query_fails}
use Rattle.agv_store_sql.proofs.sql.Selecting.{select_keeps, select_survives}
use Rattle.agv_store_sql.proofs.row_reads.find_count.Goals as goal

pub returns-clause-shown : goal.returns-clause-shown
returns-clause-shown g c clean =
    count_given c.args.by (bound c.args.values.now) (state g.S.Store c.args.conn.now) (state g.S.Store c.query_all.new.self) c.query_all.result c.count_query.result.now c.count_query.ensures (c.query_all.ensures.ok clean)

pub returns-clause-failed : goal.returns-clause-failed
returns-clause-failed g c clean = on_failed c.query_all.result (λ e. query_fails _ _ _ _ e) (c.query_all.ensures.err clean)

pub returns-clause-kept : goal.returns-clause-kept
returns-clause-kept g c clean =
    select_keeps (bound c.args.values.now) (state g.S.Store c.args.conn.now) (state g.S.Store c.query_all.new.self) c.count_query.result.now (count_selects c.args.by c.count_query.result.now c.count_query.ensures) c.query_all.result (c.query_all.ensures.ok clean)

pub returns-clause-survives : goal.returns-clause-survives
returns-clause-survives g c =
    select_survives (bound c.args.values.now) (state g.S.Store c.args.conn.now) (state g.S.Store c.query_all.new.self) c.count_query.result.now (count_selects c.args.by c.count_query.result.now c.count_query.ensures) c.query_all.ensures.survives

pub returns-clause-caused : goal.returns-clause-caused
returns-clause-caused g c clean = count_caused c.args.by (bound c.args.values.now) (state g.S.Store c.args.conn.now) (state g.S.Store c.query_all.new.self) c.query_all.result c.count_query.result.now c.count_query.ensures (c.query_all.ensures.err clean)

pub returns-clause-idle : goal.returns-clause-idle
returns-clause-idle g c = c.query_all.ensures.mode
