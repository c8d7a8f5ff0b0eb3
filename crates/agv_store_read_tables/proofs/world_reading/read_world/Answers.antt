use Rattle.std.proofs.Common.{Ok}
use Rattle.agv_store_read.proofs.AskingAll.{all_passes, all_then, all_then_follows, all_then_passes}
use Rattle.agv_store_read_tables.proofs.world_reading.read_world.Goals as goal

pub returns-in_err-query_meta : goal.returns-in_err-query_meta
returns-in_err-query_meta g c = all_passes g.S.Store c.args.conn.now c.query_meta.new.conn c.in_err-query_meta.field-0.0 _ _ _ _ c.from_residual.result c.from_residual.ensures.1 c.in_err-query_meta.ensures

pub returns-in_err-tables : goal.returns-in_err-tables
returns-in_err-tables g c =
    all_then_passes g.S.Store c.args.conn.now c.query_meta.new.conn c.read_tables.new.conn tt _ _ c.in_ok-query_meta.ensures
    c.in_err-tables.field-0.0 _ _ _ _ c.from_residual-in_err-tables.result c.from_residual-in_err-tables.ensures.1 c.in_err-tables.ensures

pub returns-in_err-holds : goal.returns-in_err-holds
returns-in_err-holds g c =
    all_then_passes g.S.Store c.args.conn.now c.read_tables.new.conn c.query_holds.new.conn c.in_ok-tables.tables _ _
    (all_then g.S.Store c.args.conn.now c.query_meta.new.conn c.read_tables.new.conn tt _ _ c.in_ok-query_meta.ensures (Ok c.in_ok-tables.tables) _ _ c.in_ok-tables.ensures)
    c.in_err-holds.field-0.0 _ _ _ _ c.from_residual-in_err-holds.result c.from_residual-in_err-holds.ensures.1 c.in_err-holds.ensures

pub returns : goal.returns
returns g c =
    all_then_follows g.S.Store c.args.conn.now c.read_tables.new.conn c.query_holds.new.conn c.in_ok-tables.tables _ _
    (all_then g.S.Store c.args.conn.now c.query_meta.new.conn c.read_tables.new.conn tt _ _ c.in_ok-query_meta.ensures (Ok c.in_ok-tables.tables) _ _ c.in_ok-tables.ensures)
    c.in_ok-holds.holds _ _ _ _ (Ok (c.in_ok-tables.tables, c.in_ok-holds.holds)) tt
    (λ world lawful before holds. (before.1, holds)) (λ lists before holds. record { meta = before.0; tables = before.1; holds = holds }) c.in_ok-holds.ensures
