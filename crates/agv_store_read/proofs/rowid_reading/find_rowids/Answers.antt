use Rattle.std.proofs.Common.{refl}
use Rattle.sqlite.specs.Held.{state}
use Rattle.agv_store_sql.proofs.DeskStatements.{on_failed}
use Rattle.agv_store_read.proofs.RowidMeanings.{rowids_select}
use Rattle.agv_store_read.proofs.RowidsRead.{rowids_caused, rowids_read}
use Rattle.agv_store_schema.proofs.Running.{query_fails}
use Rattle.agv_store_sql.proofs.sql.Selecting.{select_keeps, select_survives}
use Rattle.agv_store_read.proofs.rowid_reading.find_rowids.Goals as goal

pub returns-clause-shown : goal.returns-clause-shown
returns-clause-shown g c clean =
    rowids_read _ (state g.S.Store c.args.conn.now) (state g.S.Store c.query_all.new.self) c.args.table c.query_all.result c.rowids_text.result.now c.rowids_text.ensures (c.query_all.ensures.ok clean)

pub returns-clause-kept : goal.returns-clause-kept
returns-clause-kept g c clean =
    select_keeps _ (state g.S.Store c.args.conn.now) (state g.S.Store c.query_all.new.self) c.rowids_text.result.now (rowids_select c.args.table c.rowids_text.result.now c.rowids_text.ensures) c.query_all.result (c.query_all.ensures.ok clean)

pub returns-clause-failed : goal.returns-clause-failed
returns-clause-failed g c clean = on_failed c.query_all.result (λ e. query_fails _ _ _ _ e) (c.query_all.ensures.err clean)

pub returns-clause-caused : goal.returns-clause-caused
returns-clause-caused g c clean =
    rowids_caused _ (state g.S.Store c.args.conn.now) (state g.S.Store c.query_all.new.self) c.args.table c.query_all.result c.rowids_text.result.now refl c.rowids_text.ensures (c.query_all.ensures.err clean)

pub returns-clause-survives : goal.returns-clause-survives
returns-clause-survives g c =
    select_survives _ (state g.S.Store c.args.conn.now) (state g.S.Store c.query_all.new.self) c.rowids_text.result.now (rowids_select c.args.table c.rowids_text.result.now c.rowids_text.ensures) c.query_all.ensures.survives
