use Rattle.std.proofs.Common.{Some, ap}
use Rattle.agv_world_core.specs.Questions.{layout_set}
use Rattle.agv_store_read.proofs.Asking.{follows, passes}
use Rattle.agv_store_read_tables.proofs.LayoutAnswers.{layout_is}
use Rattle.agv_store_read.proofs.TableReading.{reads_it}
use Rattle.agv_store_read_tables.proofs.layout_reading.query_layout.Goals as goal

pub returns-in_err-tables : goal.returns-in_err-tables
returns-in_err-tables g c = passes g.S.Store c.args.conn.now c.query_layout_tables.new.conn c.in_err-tables.field-0.0 _ _ c.from_residual.result c.from_residual.ensures.1 c.in_err-tables.ensures.tells

pub returns : goal.returns
returns g c =
    follows g.S.Store c.args.conn.now c.query_layout_tables.new.conn c.in_ok-tables.tables _ _ c.layout_in_tables.result
    (λ world lawful are. reads_it (layout_set world) c.layout_in_tables.result _ c.layout_in_tables.ensures (ap Some (layout_is world _ are.0 are.1 are.2))) c.in_ok-tables.ensures.tells
