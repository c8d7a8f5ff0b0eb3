use Rattle.sqlite.specs.Held.{state}
use Rattle.sqlite.specs.Values.{bound}
use Rattle.agv_store_sql.proofs.DeskStatements.{query_shown}
use Rattle.agv_store_schema.proofs.Running.{query_keeps}
use Rattle.agv_store_sql.proofs.sql.Selecting.{query_selects, select_keeps}
use Rattle.agv_store_sql.proofs.row_finds.find_rows_by_inside.Goals as goal

pub returns-clause-unchanged : goal.returns-clause-unchanged
returns-clause-unchanged g c clean =
    select_keeps (bound c.args.values.now) (state g.S.Store c.args.tx.now.conn.now) (state g.S.Store c.query_all.new.self.conn.now) c.query.result.now (query_selects c.args.by c.query.result.now c.query.ensures) c.query_all.result (c.query_all.ensures.ok clean)

pub returns-clause-kept : goal.returns-clause-kept
returns-clause-kept g c clean =
    query_keeps c.query.result.now (bound c.args.values.now) (state g.S.Store c.args.tx.now.conn.now) (state g.S.Store c.query_all.new.self.conn.now) c.query_all.result (returns-clause-unchanged g c clean) (c.query_all.ensures.err clean)

pub returns-clause-shown : goal.returns-clause-shown
returns-clause-shown g c clean =
    query_shown (bound c.args.values.now) (state g.S.Store c.args.tx.now.conn.now) (state g.S.Store c.query_all.new.self.conn.now) c.query_all.result c.query.result.now c.args.by c.query.ensures (c.query_all.ensures.ok clean)
