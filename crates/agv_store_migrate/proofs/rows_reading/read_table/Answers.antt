use Rattle.agv_store_migrate.specs.FirstFound.{one_list}
use Rattle.agv_store_migrate.proofs.ListsRead.{numbers_fail, one_err, rows_fail, rows_shown, unnumbered}
use Rattle.agv_store_migrate.proofs.rows_reading.read_table.Goals as goal

pub returns-in_err-query_keyed : goal.returns-in_err-query_keyed
returns-in_err-query_keyed g c =
    numbers_fail g.S.Store c.args.conn.now c.query_keyed.new.conn c.args.table (one_list c.from_residual.result) c.in_err-query_keyed.field-0.0
    (one_err c.in_err-query_keyed.field-0.0 c.from_residual.result c.from_residual.ensures.1) c.in_err-query_keyed.ensures

pub returns-then-not-branch : goal.returns-then-not-branch
returns-then-not-branch g c = unnumbered g.S.Store c.args.conn.now c.query_keyed.new.conn c.args.table c.in_ok-query_keyed.field-0 c.if-not-branch.true c.in_ok-query_keyed.ensures

pub returns-in_err-rows : goal.returns-in_err-rows
returns-in_err-rows g c =
    rows_fail g.S.Store c.args.conn.now c.query_keyed.new.conn c.args.table c.find_all_rows.new.conn c.in_ok-query_keyed.field-0 c.if-not-branch.false c.in_ok-query_keyed.ensures
    c.find_all_rows.ensures.idle c.find_all_rows.ensures.survives (one_list c.from_residual-in_err-rows.result) c.in_err-rows.field-0.0
    (one_err _ c.from_residual-in_err-rows.result c.from_residual-in_err-rows.ensures.1) c.in_err-rows.ensures.failed c.in_err-rows.ensures.caused

pub returns : goal.returns
returns g c =
    rows_shown g.S.Store c.args.conn.now c.query_keyed.new.conn c.args.table c.find_all_rows.new.conn c.in_ok-query_keyed.field-0 c.if-not-branch.false c.in_ok-query_keyed.ensures
    c.find_all_rows.ensures.idle c.find_all_rows.ensures.survives c.in_ok-rows.rows.items c.in_ok-rows.ensures.kept c.in_ok-rows.ensures.alone
