use Rattle.std.proofs.Common.{refl}
use Rattle.sqlite.specs.Held.{state}
use Rattle.agv_store_sql.proofs.DeskStatements.{all_alone, all_shown, on_failed}
use Rattle.agv_store_sql.proofs.sql.ReadFailing.{all_caused}
use Rattle.agv_store_schema.proofs.Running.{query_fails}
use Rattle.agv_store_sql.proofs.sql.Selecting.{all_selects, select_keeps, select_survives}
use Rattle.agv_store_sql.proofs.row_reads.find_all_rows.Goals as goal

pub returns-clause-shown : goal.returns-clause-shown
returns-clause-shown g c clean =
    all_shown _ (state g.S.Store c.args.conn.now) (state g.S.Store c.query_all.new.self) c.query_all.result c.all_rows.result.now c.args.table c.all_rows.ensures (c.query_all.ensures.ok clean)

pub returns-clause-alone : goal.returns-clause-alone
returns-clause-alone g c clean =
    all_alone _ (state g.S.Store c.args.conn.now) (state g.S.Store c.query_all.new.self) c.query_all.result c.all_rows.result.now c.args.table c.all_rows.ensures (c.query_all.ensures.ok clean)

pub returns-clause-failed : goal.returns-clause-failed
returns-clause-failed g c clean = on_failed c.query_all.result (λ e. query_fails _ _ _ _ e) (c.query_all.ensures.err clean)

pub returns-clause-kept : goal.returns-clause-kept
returns-clause-kept g c clean =
    select_keeps _ (state g.S.Store c.args.conn.now) (state g.S.Store c.query_all.new.self) c.all_rows.result.now (all_selects c.args.table c.all_rows.result.now c.all_rows.ensures) c.query_all.result (c.query_all.ensures.ok clean)

pub returns-clause-survives : goal.returns-clause-survives
returns-clause-survives g c =
    select_survives _ (state g.S.Store c.args.conn.now) (state g.S.Store c.query_all.new.self) c.all_rows.result.now (all_selects c.args.table c.all_rows.result.now c.all_rows.ensures) c.query_all.ensures.survives

pub returns-clause-caused : goal.returns-clause-caused
returns-clause-caused g c clean = all_caused _ (state g.S.Store c.args.conn.now) (state g.S.Store c.query_all.new.self) c.query_all.result c.all_rows.result.now (c.query_all.ensures.err clean) c.args.table refl c.all_rows.ensures

pub returns-clause-idle : goal.returns-clause-idle
returns-clause-idle g c = c.query_all.ensures.mode
