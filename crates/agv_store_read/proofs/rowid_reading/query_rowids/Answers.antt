use Rattle.agv_store_read.proofs.RowidsTold.{tells_all, tells_keyed}
use Rattle.agv_store_read.proofs.rowid_reading.query_rowids.Goals as goal

pub returns-clause-exact : goal.returns-clause-exact
returns-clause-exact g c = tells_all g.S.Store c.args.conn.now c.query_each_keyed.new.conn c.query_each_keyed.result c.query_each_keyed.ensures

pub returns-clause-tells : goal.returns-clause-tells
returns-clause-tells g c =
    tells_keyed g.S.Store c.args.conn.now c.query_each_keyed.new.conn c.query_each_keyed.result (tells_all g.S.Store c.args.conn.now c.query_each_keyed.new.conn c.query_each_keyed.result c.query_each_keyed.ensures)
