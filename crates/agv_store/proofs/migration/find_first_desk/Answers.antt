use Rattle.agv_store.proofs.Moving.{finds_fault, finds_first, finds_no_memory}
use Rattle.agv_store.proofs.migration.find_first_desk.Goals as goal

pub returns-in_err-tables : goal.returns-in_err-tables
returns-in_err-tables g c =
    finds_fault g.S.Store c.args.conn.now c.find_first_world.new.conn c.from_residual.result c.in_err-tables.field-0.0 c.from_residual.ensures.1 c.in_err-tables.ensures

pub returns-in_err-known : goal.returns-in_err-known
returns-in_err-known g c =
    finds_no_memory g.S.Store c.args.conn.now c.find_first_world.new.conn c.in_ok-tables.tables c.from_residual-in_err-known.result c.from_residual-in_err-known.ensures.1 c.in_ok-tables.ensures

pub returns : goal.returns
returns g c = finds_first g.S.Store c.args.conn.now c.find_first_world.new.conn c.in_ok-tables.tables c.in_ok-known.known c.in_ok-tables.ensures c.in_ok-known.ensures
