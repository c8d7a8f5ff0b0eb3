use Rattle.std.proofs.Common.{[], ◌∷◌, subst, rules}
use Rattle.sqlite.specs.Held.{state}
use Rattle.sqlite.specs.Values.{bound}
use Rattle.agv_store_sql.proofs.DeskStatements.{inserts_row}
use Rattle.agv_store_sql.proofs.KeysFree.{inserts_free, refuses_row}
use Rattle.agv_store_sql.proofs.Refusing.{ends_one}
use Rattle.agv_store_sql.specs.Refusals.{EndsInside}
use Rattle.agv_store_sql.proofs.row_writes.insert_row.Goals as goal

pub returns-clause-writes : goal.returns-clause-writes
returns-clause-writes g c = record {
  same_reference = c.execute.ensures.same_reference;
  survives = c.execute.ensures.survives;
  kept = search rules;
  made = λ clean fit. inserts_row c.args.table c.requires c.insertion.result.now c.insertion.ensures (bound c.args.row.now) fit _ _ c.execute.result (λ idle. (c.execute.ensures.ended idle).0, c.execute.ensures.runs clean);
}

pub returns-clause-free : goal.returns-clause-free
returns-clause-free g c clean fit =
    inserts_free c.args.table c.requires c.insertion.result.now c.insertion.ensures (bound c.args.row.now) fit (state g.S.Store c.args.tx.now.conn.now) (state g.S.Store c.execute.new.self.conn.now) c.execute.result
    (λ idle. (c.execute.ensures.ended idle).0, c.execute.ensures.runs clean)

pub returns-clause-refused : goal.returns-clause-refused
returns-clause-refused g c clean =
    refuses_row c.insertion.result.now (bound c.args.row.now) (state g.S.Store c.args.tx.now.conn.now) (state g.S.Store c.execute.new.self.conn.now) c.execute.result
    (λ idle. (c.execute.ensures.ended idle).0, c.execute.ensures.runs clean)

pub returns-clause-ends : goal.returns-clause-ends
returns-clause-ends g c =
    subst (λ text. EndsInside g.S.Store c.args.tx.now c.execute.new.self ((text, bound c.args.row.now) ∷ []) c.execute.result) c.insertion.ensures
    (ends_one g.S.Store c.args.tx.now c.execute.new.self (c.insertion.result.now, bound c.args.row.now) c.execute.result c.execute.ensures.runs)
